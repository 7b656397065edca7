use Rattle.std.proofs.Common.{◌≡◌, ◌∙◌, true, sym, subst, rules, List, ℕ, [], ◌∷◌}
use Rattle.std.proofs.lemmas.Bool.{false≢true}
use Rattle.csv.specs.Records.{fields_of}
use Rattle.thes_posting_files.specs.RecordReading.{HasReadTo}
use Rattle.thes_posting_files.proofs.RecordReadingLemmas.{first_is_other}
use Rattle.thes_posting_files.proofs.reading.read_header.Goals as goal

pub returns : goal.returns
returns c =
    let found : c.in_ok-next_record.field-0 ≡ true = search rules in
    record {
      more = λ is bytes h.
          let m = c.in_ok-next_record.ensures.record.more found bytes [] h in
          let header = c.is_header.ensures.0 is in (
            subst (λ (f : List (List ℕ)). HasReadTo bytes (f ∷ []) c.next_record.new.records) header m.0,
            m.1,
          );
      none = λ is bytes h.
          let m = c.in_ok-next_record.ensures.record.more found bytes [] h in
          first_is_other bytes (fields_of c.next_record.new.entry) c.next_record.new.records m.0
          (λ same. false≢true (sym is ∙ c.is_header.ensures.1 same));
    }
