-- The rows in the facts of a request are rows of the histories.
use Rattle.std.proofs.Common.{◌≡◌, ◌≢◌, ◌<◌, ℕ, zero, suc, length, List, [], ◌∷◌, refl, sym, ap, ◌∙◌, subst, arith}
use Rattle.std.proofs.Common.{true, not, ◌&&◌, eqb, get_or, map}
use Rattle.std.specs.Prelude.{Some, None, Option, slice_get, option_map}
use Rattle.std.proofs.lemmas.Option.{same_Some}
use Rattle.thes_base.specs.declared.data.History.{History}
use Rattle.thes_base.specs.Resources.{entry_at}
use Rattle.thes_base.specs.Postings.{place, is_assigned_to}
use Rattle.thes_base.specs.Changes.{is_listed}
use Rattle.thes_base.specs.RefusalRules.{accepted}
use Rattle.thes_base.specs.Refusals.{EachListed, IsPostingThat}
use Rattle.thes_base.specs.RuleParts.{unless_split_postings}
use Rattle.thes_base.proofs.RefusalRuleLemmas.{passed_unless}
use Rattle.thes_post.proofs.EachLemmas.{has_of_each}
use Rattle.thes_post.proofs.PostingCountLemmas.{AllAssigned}
use Rattle.thes_tables.specs.declared.rows.PostingRow.{PostingRow}
use Rattle.thes_tables.specs.Tables.{posting_row}
use Rattle.thes_core.specs.Facts.{posting_row_at}
use Rattle.thes_core.specs.NamedPostings.{first_named_posting}

-- The postings that a split lists are assigned to its source.
pub listed_stand : (target : ℕ) {source : ℕ} (apart : source ≢ target) (hs : List History) (postings : List ℕ)
    → ((i : ℕ) (h : History) → slice_get hs i ≡ Some h → h.number ≡ suc i) → unless_split_postings hs source postings
    accepted None → AllAssigned (is_listed postings) source target apart hs
listed_stand target {source} apart hs postings numbers row = go hs (λ i h at. (i, at))
  where
    stays : EachListed (IsPostingThat hs (λ h. not h.withdrawn)) postings
    stays = (passed_unless (passed_unless (passed_unless row).1).1).0

    here : EachListed (IsPostingThat hs (λ h. eqb (place h) source)) postings
    here = (passed_unless (passed_unless (passed_unless (passed_unless row).1).1).1).0

    one : (i : ℕ) (h : History) → slice_get hs i ≡ Some h → is_listed postings h ≡ true → is_assigned_to source h ≡ true
    one i h at hit =
        let found : entry_at hs h.number ≡ Some h = ap (entry_at hs) (numbers i h at) ∙ at in
        let s = has_of_each (IsPostingThat hs (λ g. not g.withdrawn)) postings stays h.number hit in
        let p = has_of_each (IsPostingThat hs (λ g. eqb (place g) source)) postings here h.number hit in
        let same_s : s.0 ≡ h = same_Some _ _ (sym s.1 ∙ found) in
        let same_p : p.0 ≡ h = same_Some _ _ (sym p.1 ∙ found) in
        λ j. (ap (λ (g : History). not g.withdrawn) (sym same_s) ∙ s.2) j &&
        (ap (λ (g : History). eqb (place g) source) (sym same_p) ∙ p.2) j

    go : (gs : List History) → ((i : ℕ) (h : History) → slice_get gs i ≡ Some h → (j : ℕ) × (slice_get hs j ≡ Some h))
        → AllAssigned (is_listed postings) source target apart gs
    go [] f = tt
    go (h ∷ gs) f = (λ hit. (let a = f 0 h refl in one a.0 h a.1 hit), go gs (λ i g at. f (suc i) g at))

pub row_found : (o : Option History) (row : PostingRow) → option_map posting_row o ≡ Some row → (h : History)
    × (o ≡ Some h) × (row ≡ posting_row h)
row_found None row e = absurd (cc)
row_found (Some h) row e = (h, refl, same_Some _ _ (sym e))

pub row_missing : (o : Option History) → option_map posting_row o ≡ None → o ≡ None
row_missing None e = refl
row_missing (Some h) e = absurd (cc)

-- The row at an index is that of the posting that the request lists at this index.
pub named_at : (hs : List History) (ns : List ℕ) (named_postings : List (Option PostingRow)) (i : ℕ)
    (row : Option PostingRow) → named_postings ≡ map (posting_row_at hs) ns → i < length named_postings → row
    ≡ get_or named_postings i row → (n : ℕ) × (i < length ns) × (n ≡ get_or ns i n) × (posting_row_at hs n ≡ row)
named_at hs ns named_postings i row is within at =
    go ns i (subst (λ (l : List (Option PostingRow)). i < length l) is within)
    (at ∙ ap (λ (l : List (Option PostingRow)). get_or l i row) is)
  where
    go : (ms : List ℕ) (j : ℕ) → j < length (map (posting_row_at hs) ms) → row ≡ get_or (map (posting_row_at hs) ms) j
        row → (n : ℕ) × (j < length ms) × (n ≡ get_or ms j n) × (posting_row_at hs n ≡ row)
    go [] j l e = absurd (omega arith)
    go (m ∷ ms) zero l e = (m, omega arith, refl, sym e)
    go (m ∷ ms) (suc j) l e = let r = go ms j (omega arith) e in (r.0, (let b = r.1 in omega arith), r.2, r.3)

pub row_of_one : (hs : List History) (posting : ℕ) (named_postings : List (Option PostingRow)) (row : PostingRow)
    → named_postings ≡ posting_row_at hs posting ∷ [] → first_named_posting named_postings ≡ Some row → (h : History)
    × (entry_at hs posting ≡ Some h) × (row ≡ posting_row h)
row_of_one hs posting named_postings row is first = row_found (entry_at hs posting) row (ap first_named_posting (sym is)
    ∙ first)
