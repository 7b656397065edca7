-- Proves that a text has one list of records, and that a reader reads them in order.
use Rattle.std.proofs.lemmas.Grind.{common_steps}
use Rattle.std.proofs.Common.{◌≡◌, ◌∙◌, ◌⊎◌, ◌+◌, ◌<◌, ◌≤◌, ◌++◌, ◌∷◌, [], ℕ, zero, suc, Bool, true, false, List, refl}
use Rattle.std.proofs.Common.{sym, ap, subst, inl, inr, length, Option, None, Some, arith}
use Rattle.std.specs.Prelude.{if◌then◌else◌, IfOk, OnOk, Result, Ok, Err}
use Rattle.std.specs.Result.{result_ok}
use Rattle.std.specs.Borrow.{Bor}
use Rattle.csv.specs.Machine.{Read, fields_after, field_after, is_end, next_record, step}
use Rattle.csv.specs.Reading.{AreRecords, Reached, ReadRecord, Ready, ReadsNext, default_config, pending_of}
use Rattle.csv.specs.Reading.{source_of, strip_bom}
use Rattle.csv.specs.declared.parser.Config.{Config}
use Rattle.csv.specs.declared.parser.State.{State}
use Rattle.csv.specs.declared.parser.State.TheVariants as st
use Rattle.csv.specs.declared.reader.Reader.{Reader}
use Rattle.csv.specs.declared.reader.Trim.TheVariants as trim
use Rattle.csv.proofs.ReadFacts.{rows-end, rows-more}
use Rattle.thes_posting_files.specs.PostingFile.{HasNoHeader, header}
use Rattle.thes_posting_files.specs.RecordReading.{HasReadTo, TakesRecord, most_left, most_records}

-- The contribution of the end of the text to the bound on the records left: one if it may end a record.

abbrev flag : Bool → ℕ
flag b = if b then 1 else 0

flag_small : (b : Bool) → flag b ≤ 1
flag_small true = omega arith
flag_small false = omega arith

at_the_end : (b : Bool) (r p : Read) → (if b then Some r else None) ≡ Some p → (b ≡ true) × (r ≡ p)
at_the_end true r p e = (refl, cc)
at_the_end false r p e = absurd (let bad : None ≡ Some p = e in cc)

here_or_later : (b : Bool) (r p : Read) (o : Option Read) → (if b then Some r else o) ≡ Some p
    → (r ≡ p) ⊎ (o ≡ Some p)
here_or_later true r p o e = inl (cc)
here_or_later false r p o e = inr e

-- Reading a record lowers the bound, since it consumes at least a byte, or the end of the text.
pub fewer_records : (cfg : Config) (s : State) (fields : List (List ℕ)) (field text : List ℕ) (p : Read)
    → next_record cfg s fields field text ≡ Some p → most_records p.1 (Some p.2) < most_records s (Some text)
unfolding next_record
fewer_records cfg s fields field [] p e = grind (arith, common_steps, at_the_end)
fewer_records cfg s fields field (c ∷ rest) p e =
    go (here_or_later (is_end (step cfg s c).1)
    (fields_after (step cfg s c).1 fields field, (step cfg s c).0, rest) p
    (next_record cfg (step cfg s c).0 (fields_after (step cfg s c).1 fields field)
    (field_after (step cfg s c).1 c field) rest) e)
    (fewer_records cfg (step cfg s c).0 (fields_after (step cfg s c).1 fields field)
    (field_after (step cfg s c).1 c field) rest p)
  where
    go : ((fields_after (step cfg s c).1 fields field, (step cfg s c).0, rest) ≡ p)
        ⊎ (next_record cfg (step cfg s c).0 (fields_after (step cfg s c).1 fields field)
        (field_after (step cfg s c).1 c field) rest ≡ Some p)
        → (next_record cfg (step cfg s c).0 (fields_after (step cfg s c).1 fields field)
        (field_after (step cfg s c).1 c field) rest ≡ Some p
        → most_records p.1 (Some p.2) < most_records (step cfg s c).0 (Some rest))
        → most_records p.1 (Some p.2) < most_records s (Some (c ∷ rest))
    go h later = grind (arith, common_steps, flag_small)

fewer_after : (cfg : Config) (a b : State) (text : List ℕ) (fields : List (List ℕ)) (k : Option (List ℕ))
    → ReadsNext cfg a (Some text) k true fields b → most_records b k < most_records a (Some text)
fewer_after cfg a b text fields k r = grind (arith, common_steps, fewer_records)

-- Each text has a list of records.
pub records_exist : (cfg : Config) (n : ℕ) (s : State) (text : List ℕ) → most_records s (Some text) < n
    → (records : List (List (List ℕ))) × AreRecords cfg s text records
unfolding Reached
records_exist cfg zero s text below = absurd (omega (arith, below))
records_exist cfg (suc n) s text below =
    go (next_record cfg s [] [] text) refl (λ p e. let fewer = fewer_records cfg s [] [] text p e in
    records_exist cfg n p.1 p.2 (omega (arith, below, fewer)))
  where
    go : (o : Option Read) → next_record cfg s [] [] text ≡ o
        → ((p : Read) → next_record cfg s [] [] text ≡ Some p
        → (records : List (List (List ℕ))) × AreRecords cfg p.1 p.2 records)
        → (records : List (List (List ℕ))) × AreRecords cfg s text records
    go None e later = ([], (s, text, (refl, refl), e))
    go (Some p) e later =
        let rest = later p e in
        (p.0 ∷ rest.0, (rest.1.0, rest.1.1, (p, e, refl, rest.1.2), rest.1.3))

-- A text has no more records than the bound.
pub records_few : (cfg : Config) (s : State) (text : List ℕ) (records : List (List (List ℕ)))
    → AreRecords cfg s text records → length records ≤ most_records s (Some text)
unfolding Reached
records_few cfg s text [] are = omega arith
records_few cfg s text (r ∷ records) are =
    let fewer = fewer_records cfg s [] [] text are.2.0 are.2.1 in
    let rest = records_few cfg are.2.0.1 are.2.0.2 records (are.0, are.1, are.2.3, are.3) in
    omega (arith, fewer, rest)

-- The records read are the first records of the text.
pub records_after : (cfg : Config) (s s' : State) (text unread : List ℕ) (first all : List (List (List ℕ)))
    → Reached cfg s text first s' unread → AreRecords cfg s text all
    → (rest : List (List (List ℕ))) × (all ≡ first ++ rest) × AreRecords cfg s' unread rest
unfolding Reached
records_after cfg s s' text unread [] all h are = (all, refl, rw (← h.0, ← h.1) are)
records_after cfg s s' text unread (r ∷ rs) [] h are = grind (arith, common_steps)
records_after cfg s s' text unread (r ∷ rs) (q ∷ qs) h are =
    grind (arith, common_steps, records_after cfg h.0.1 s' h.0.2 unread rs qs h.3)

-- A file has no header if the first record read isn't the header.
pub first_is_other : (bytes : List ℕ) (fields : List (List ℕ)) (reader : Reader (Bor (List ℕ)))
    → HasReadTo bytes (fields ∷ []) reader → ¬ (fields ≡ header) → HasNoHeader bytes
first_is_other bytes fields reader h other =
    let text = strip_bom bytes in
    let all = records_exist default_config (suc (most_records st.StartRecord (Some text))) st.StartRecord text
    (omega arith) in
    let rest = records_after default_config st.StartRecord reader.state text h.unread (fields ∷ []) all.0 h.reaches
    all.1 in
    record {
      records = all.0;
      read = all.1;
      headless = λ w. other (let both : fields ∷ rest.0 ≡ header ∷ w.0 = sym rest.1 ∙ w.1 in cc);
    }

-- Before the first record, the bound on the records left is at most twice the length of the text.

strip_shorter : (text : List ℕ) → length (strip_bom text) ≤ length text
unfolding strip_bom
strip_shorter text = grind (arith, common_steps)

pub few_at_start : (bytes : List ℕ) → most_records st.StartRecord (Some (strip_bom bytes)) ≤ length bytes + length bytes
few_at_start bytes = grind (arith, common_steps, strip_shorter)

-- A call of the CSV reader reads one more record, or finds none left.

source_after : (new : Reader (Bor (List ℕ))) → new.bom_checked ≡ true
    → source_of (λ s. Some s.now) new ≡ pending_of (Some new.rdr.now) new
source_after new e = rw e refl

pub takes_record : (old new : Reader (Bor (List ℕ))) (fields : List (List ℕ)) (found : Bool)
    → (old.trim ≡ trim.None → Ready old → ReadRecord (λ s. Some s.now) old new found fields)
    → (old.trim ≡ trim.None → new.first ≡ true) → new.flexible ≡ old.flexible → TakesRecord old new fields found
takes_record old new fields found reads begun flexible = record {
  more = λ is bytes records h.
      let r = subst (λ (b : Bool). ReadRecord (λ (s : Bor (List ℕ)). Some s.now) old new b fields) is
      (reads h.plain h.ready) in
      let m = rows-more (λ (s : Bor (List ℕ)). Some s.now) old new fields default_config st.StartRecord
      (strip_bom bytes) h.unread records h.config h.source h.reaches r in (
        record {
          plain = r.3 ∙ h.plain;
          ready = inl (begun h.plain);
          config = r.2 ∙ h.config;
          any_width = flexible ∙ h.any_width;
          unread = m.0;
          source = m.1;
          reaches = m.2;
        },
        (let a : most_left new ≡ most_records new.state (pending_of (Some new.rdr.now) new) =
            ap (most_records new.state) (source_after new r.1) in
            let b : most_left old ≡ most_records old.state (Some h.unread) = ap (most_records old.state) h.source in
            let fewer = fewer_after old.config old.state new.state h.unread fields (pending_of (Some new.rdr.now) new)
            (rw h.source at r.0) in
            omega (arith, a, b, fewer)),
      );
  none = λ is bytes records h.
      let r = subst (λ (b : Bool). ReadRecord (λ (s : Bor (List ℕ)). Some s.now) old new b fields) is
      (reads h.plain h.ready) in (
        old.state,
        h.unread,
        h.reaches,
        rows-end (λ (s : Bor (List ℕ)). Some s.now) old new fields default_config h.unread
            h.config h.source r,
      );
}

pub takes_found : {E : Type 0} (old new : Reader (Bor (List ℕ))) (fields : List (List ℕ)) (result : Result Bool E)
    (found : Bool) → Some found ≡ result_ok result
    → IfOk result (λ b. old.trim ≡ trim.None → Ready old → ReadRecord (λ s. Some s.now) old new b fields)
    → (old.trim ≡ trim.None → OnOk result (new.first ≡ true)) → OnOk result (new.flexible ≡ old.flexible)
    → TakesRecord old new fields found
takes_found old new fields (Ok b) found e reads begun flexible =
    let both : Some found ≡ Some b = e in
    let same : b ≡ found = cc in
    subst (TakesRecord old new fields) same (takes_record old new fields b reads begun flexible)
takes_found old new fields (Err error) found e reads begun flexible = absurd (let bad : Some found ≡ None = e in cc)
