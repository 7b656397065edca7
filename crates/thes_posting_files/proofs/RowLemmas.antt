-- Proves that each record has a row: of each field it can be decided whether it has its form.
use Rattle.std.proofs.Common.{◌≡◌, ◌⊎◌, ◌<◌, ◌≤◌, ◌^◌, ◌∙◌, refl, sym, subst, ℕ, Bool, true, false, List, [], ◌∷◌, length}
use Rattle.std.proofs.Common.{arith, inl, inr, true≢false}
use Rattle.std.specs.Prelude.{◌≢◌, All, IsUtf8, slice_index}
use Rattle.std.specs.List.{AllByRecursion}
use Rattle.std.specs.Str.{is_utf8}
use Rattle.std.specs.Str.Parse.{AllDigits, digits_value}
use Rattle.std.specs.Char.{digit_value}
use Rattle.std.proofs.lemmas.Bool.{cases_eq, cases_lt}
use Rattle.std.proofs.lemmas.List.Elements.{All-from_recursion, recursion_from_All}
use Rattle.std.proofs.lemmas.Str.{IsUtf8-from_is_utf8, is_utf8-from_IsUtf8}
use Rattle.thes_base.specs.declared.fault.FormFault.TheVariants as bad
use Rattle.thes_base.specs.Characters.{space, exclamation_mark, digit_zero, tilde, delete}
use Rattle.thes_base.specs.Forms.{IsKey, IsLine, IsNumber, IsNumeral, IsPrintable, IsRecordName}
use Rattle.thes_posting_files.specs.PostingFile.{HasNumber, IsCsvRow, IsField, IsPostingRow}
use Rattle.thes_posting_files.specs.declared.csv_row.CsvRow.{CsvRow}
use Rattle.thes_posting_files.specs.declared.csv_row.CsvRow.TheVariants.{Post, Bad}

-- The statement holds, or it doesn't.
abbrev Decided : Type 0 → Type 0
Decided P = P ⊎ (P → ⊥)

both : {P Q : Type 0} → Decided P → Decided Q → Decided (P × Q)
both (inl p) (inl q) = inl (p, q)
both (inl p) (inr n) = inr (λ b. n b.1)
both (inr n) q = inr (λ b. n b.0)

decided_by : {P Q : Type 0} → (P → Q) → (Q → P) → Decided P → Decided Q
decided_by to from (inl p) = inl (to p)
decided_by to from (inr n) = inr (λ q. n (from q))

at_most : (a b : ℕ) → Decided (a ≤ b)
at_most a b = elim (cases_lt b a) [ inl l ↦ inr (λ m. omega (arith, l, m)) | inr m ↦ inl m ]

below : (a b : ℕ) → Decided (a < b)
below a b = elim (cases_lt a b) [ inl l ↦ inl l | inr m ↦ inr (λ l. omega (arith, l, m)) ]

other_than : (a b : ℕ) → Decided (a ≢ b)
other_than a b = elim (cases_eq a b) [ inl e ↦ inr (λ n. n e) | inr n ↦ inl n ]

each : (P : ℕ → Type 0) → ((b : ℕ) → Decided (P b)) → (bs : List ℕ) → Decided (AllByRecursion P bs)
each P decide [] = inl tt
each P decide (b ∷ bs) = both (decide b) (each P decide bs)

all : (P : ℕ → Type 0) → ((b : ℕ) → Decided (P b)) → (bs : List ℕ) → Decided (All P bs)
all P decide bs = decided_by (All-from_recursion P bs) (recursion_from_All P bs) (each P decide bs)

digits : (bs : List ℕ) → Decided (AllDigits 10 bs)
digits [] = inl tt
digits (b ∷ bs) = both (below (digit_value b) 10) (digits bs)

utf8_from : (bs : List ℕ) (b : Bool) → is_utf8 bs ≡ b → Decided (IsUtf8 bs)
utf8_from bs true e = inl (IsUtf8-from_is_utf8 bs e)
utf8_from bs false e = inr (λ is. true≢false (sym (is_utf8-from_IsUtf8 bs is) ∙ e))

key : (bs : List ℕ) → Decided (IsKey bs)
key bs =
    decided_by (λ p. record { least = p.0; short = p.1.0; visible = p.1.1 })
    (λ (k : IsKey bs). (k.least, (k.short, k.visible)))
    (both (at_most 1 (length bs)) (both (at_most (length bs) 64)
    (all (λ b. (exclamation_mark ≤ b) × (b ≤ tilde)) (λ b. both (at_most exclamation_mark b) (at_most b tilde)) bs)))

record_name : (bs : List ℕ) → Decided (IsRecordName bs)
record_name bs =
    decided_by (λ p. record { least = p.0; short = p.1.0; printed = p.1.1 })
    (λ (l : IsLine 128 bs). (l.least, (l.short, l.printed)))
    (both (at_most 1 (length bs)) (both (at_most (length bs) 128)
    (all IsPrintable (λ b. both (at_most space b) (other_than b delete)) bs)))

-- Whether a text is the numeral of a resource's number is decided by its value, the only number that it can state.
numeral : (bs : List ℕ) → Decided ((n : ℕ) × IsNumber n × IsNumeral bs n)
numeral bs =
    decided_by (λ p. (digits_value 10 bs, p.0, (p.1.0, refl, p.1.1)))
    (λ w. (subst IsNumber (sym w.2.1) w.1, (w.2.0, w.2.2)))
    (both (both (at_most 1 (digits_value 10 bs)) (below (digits_value 10 bs) (2 ^ 32)))
    (both (digits bs) (other_than (slice_index bs 0) digit_zero)))

field : (Is : List ℕ → Type 0) → ((bs : List ℕ) → Decided (Is bs)) → (bs : List ℕ) → Decided (IsField Is bs)
field Is decide bs =
    decided_by (λ p. record { text = p.0; form = p.1 }) (λ (f : IsField Is bs). (f.text, f.form))
    (both (utf8_from bs (is_utf8 bs) refl) (decide bs))

posting_row : (k r n : List ℕ) → Decided (IsField IsKey k) → Decided (IsField IsRecordName r) → Decided (HasNumber n)
    → (row : CsvRow) × IsPostingRow k r n row
posting_row k r n (inr none) rec number = (Bad bad.BadKey, none)
posting_row k r n (inl is) (inr none) number = (Bad bad.BadRecord, (is, none))
posting_row k r n (inl is) (inl names) (inr none) = (Bad bad.BadNumber, (is, names, none))
posting_row k r n (inl is) (inl names) (inl has) =
    (Post k r has.form.0, (is, refl, names, refl, record { text = has.text; form = has.form.2 }, has.form.1))

-- Each record has a row.
pub each_has_row : (fields : List (List ℕ)) → (row : CsvRow) × IsCsvRow fields row
each_has_row [] = (Bad bad.BadShape, refl)
each_has_row (k ∷ []) = (Bad bad.BadShape, refl)
each_has_row (k ∷ r ∷ []) = (Bad bad.BadShape, refl)
each_has_row (k ∷ r ∷ n ∷ []) = posting_row k r n (field IsKey key k) (field IsRecordName record_name r)
    (field (λ bs. (m : ℕ) × IsNumber m × IsNumeral bs m) numeral n)
each_has_row (k ∷ r ∷ n ∷ m ∷ more) = (Bad bad.BadShape, refl)
