-- The verdict on rows is the one found table by table.
use Rattle.std.proofs.Common.{◌∙◌, refl, sym, arith, inl, inr}
use Rattle.std.proofs.lemmas.Option.{same_Some}
use Rattle.thes_tables.specs.Tables.{Tables}
use Rattle.thes_tables.specs.Cells.{Raw}
use Rattle.thes_tables.proofs.CellLemmas.{head_one, tail_one, number_one}
use Rattle.thes_load_rules.specs.Verdicts.{IsNewer, IsOlder}
use Rattle.thes_load_rules.specs.Laws.{VerdictByTable}
use Rattle.thes_load_rules.proofs.OpenTableLemmas.{pass, pass_meta, loads_open}

-- Whatever the check table by table finds is the verdict.
pub verdict_by_table : (raw : Raw) (t : Tables) → VerdictByTable raw t
verdict_by_table raw t = record {
  newer = λ is. inl (is, refl);
  older = λ is. inr (newer_not_older raw is, inl (is, refl));
  meta = λ not_new not_old none. inr (not_new, inr (not_old, inl (none, refl)));
  resource = λ a none. pass_meta raw.meta t.base a (inl (none, refl));
  outside = λ (a, b) none. pass_meta raw.meta t.base a (pass t.resource b (inl (none, refl)));
  label = λ ((a, b), c) none. pass_meta raw.meta t.base a (pass t.resource b (pass t.outside c (inl (none, refl))));
  link = λ (((a, b), c), d) none. pass_meta raw.meta t.base a (pass t.resource b (pass t.outside c
      (pass t.label d (inl (none, refl)))));
  hier = λ ((((a, b), c), d), e) none. pass_meta raw.meta t.base a (pass t.resource b (pass t.outside c
      (pass t.label d (pass t.link e (inl (none, refl))))));
  posting = λ (((((a, b), c), d), e), f) none. pass_meta raw.meta t.base a (pass t.resource b (pass t.outside c
      (pass t.label d (pass t.link e (pass t.hier f (inl (none, refl)))))));
  move = λ ((((((a, b), c), d), e), f), g) none. pass_meta raw.meta t.base a (pass t.resource b (pass t.outside c
      (pass t.label d (pass t.link e (pass t.hier f (pass t.posting g (inl (none, refl))))))));
  all = λ (((((((a, b), c), d), e), f), g), h). loads_open raw t
      (record { meta = a; resource = b; outside = c; label = d; link = e; hier = f; posting = g; move = h });
}
  where
    newer_not_older : (raw : Raw) → IsOlder raw.meta → IsNewer raw.meta → ⊥
    newer_not_older raw (v, base, one, is) (w, other, above, js) =
        let same = number_one (head_one (tail_one (head_one (same_Some _ _ (sym is ∙ js))))) in
        omega (arith, one, above, same)
