-- The check of the postings that a split lists, one after another.
use Rattle.std.proofs.Common.{◌≡◌, ◌+◌, ◌<◌, ℕ, Bool, List, Option, true, false, not, ◌||◌, eqb, take, map, get_or, length}
use Rattle.std.proofs.Common.{sym, ap, subst, ◌∙◌, arith}
use Rattle.std.specs.Prelude.{Some}
use Rattle.thes_base.specs.declared.data.History.{History}
use Rattle.thes_base.specs.Postings.{place}
use Rattle.thes_base.specs.Refusals.{EachListed, IsKnownPosting, IsPostingThat}
use Rattle.thes_post.proofs.EachLemmas.{each_more}
use Rattle.thes_post.proofs.ListedPostingLemmas.{passes_more, passes_never}
use Rattle.thes_tables.specs.declared.rows.PostingRow.{PostingRow}
use Rattle.thes_core.specs.Facts.{posting_row_at}
use Rattle.thes_core.proofs.FactLemmas.{named_at, row_found}

-- The first i postings are known. If a flag is set, the whole list fails the flag's check; if not, the first i postings
-- pass it.
pub record AreCheckedTo (i : ℕ) (hs : List History) (source : ℕ) (ns : List ℕ) (withdrawn elsewhere : Bool)
    : Type 0 where
  pub known : EachListed (IsKnownPosting hs) (take i ns)
  pub none_withdrawn : withdrawn ≡ false → EachListed (IsPostingThat hs (λ h. not h.withdrawn)) (take i ns)
  pub some_withdrawn : withdrawn ≡ true → EachListed (IsPostingThat hs (λ h. not h.withdrawn)) ns → ⊥
  pub all_at_source : elsewhere ≡ false → EachListed (IsPostingThat hs (λ h. eqb (place h) source)) (take i ns)
  pub some_elsewhere : elsewhere ≡ true → EachListed (IsPostingThat hs (λ h. eqb (place h) source)) ns → ⊥

not_not : (b : Bool) → b ≡ not (not b)
not_not b = grind (arith)

module _ (hs : List History) (source : ℕ) (ns : List ℕ) (rows : List (Option PostingRow)) (i : ℕ)
    (item : Option PostingRow) (row : PostingRow) (withdrawn elsewhere : Bool) (is : rows ≡ map (posting_row_at hs) ns)
    (within : i < length rows) (at : item ≡ get_or rows i item) (found : item ≡ Some row)
    (was : AreCheckedTo i hs source ns withdrawn elsewhere) where
  -- Once the row at index `i` is checked, the same holds for the first i + 1 postings and the new flags.
  pub checked_more : AreCheckedTo (i + 1) hs source ns (withdrawn || row.withdrawn)
      (elsewhere || not (eqb row.place source))
  checked_more =
      let n = named_at hs ns rows i item is within at in
      let told = row_found _ row (n.3 ∙ found) in
      let h = told.0 in
      let away = not (eqb row.place source) in
      let stays : not h.withdrawn ≡ not row.withdrawn = ap (λ (r : PostingRow). not r.withdrawn) (sym told.2) in
      let here : eqb (place h) source ≡ not away = ap (λ (r : PostingRow). eqb r.place source) (sym told.2)
      ∙ not_not (eqb row.place source) in
      record {
        known = each_more (IsKnownPosting hs) ns i n.0 n.1 was.known (subst (IsKnownPosting hs) n.2 (h, told.1));
        none_withdrawn = passes_more hs (λ g. not g.withdrawn) ns i n.0 h withdrawn row.withdrawn n.1 n.2
            told.1 stays was.none_withdrawn;
        some_withdrawn = passes_never hs (λ g. not g.withdrawn) ns i n.0 h withdrawn row.withdrawn n.1 n.2
            told.1 stays was.some_withdrawn;
        all_at_source = passes_more hs (λ g. eqb (place g) source) ns i n.0 h elsewhere away n.1 n.2
            told.1 here was.all_at_source;
        some_elsewhere = passes_never hs (λ g. eqb (place g) source) ns i n.0 h elsewhere away n.1 n.2
            told.1 here was.some_elsewhere;
      }
