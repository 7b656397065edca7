-- The checks of table posting, row by row, decide whether the table meets its rule.
use Rattle.std.proofs.lemmas.Grind.{common_steps}
use Rattle.std.proofs.Common.{◌≡◌, ℕ, ◌+◌, length, List, [], ◌∷◌, ◌++◌, map, sym}
use Rattle.std.proofs.Common.{ap, ◌∙◌, arith, true, false, cond, ◌||◌}
use Rattle.std.specs.Prelude.{Some}
use Rattle.std.proofs.lemmas.List.{map-append, length-map}
use Rattle.std.proofs.lemmas.Cmp.{nat_list_cmp_total}
use Rattle.std.specs.Ordering.{nat_cmp, eq_by_cmp}
use Rattle.std.specs.Cmp.{eq_by_cmp_equiv}
use Rattle.std.specs.Cmp.Lexicographic.{slice_cmp}
use Rattle.std.specs.FinSet as set
use Rattle.thes_base.specs.declared.data.Resource.{Resource}
use Rattle.thes_base.specs.Resources.{entry_at, IsConcept, is_live_concept}
use Rattle.thes_base.specs.Texts.{IsPostingForm}
use Rattle.thes_base.proofs.NumberedLemmas.{push_cases, numbered_bound}
use Rattle.thes_base.proofs.SetMemberLemmas.{or_swap}
use Rattle.thes_tables.specs.declared.rows.PostingRow.{PostingRow}
use Rattle.thes_tables.proofs.RowSetLemmas.{clash, in_any, any_in, in_map, map_in}
use Rattle.thes_load_rules.specs.Rules.{PostingRule}
use Rattle.thes_load_rules.proofs.RowListLemmas.{in_numbered, numbered_in}
use Rattle.thes_links.proofs.SetLemmas.{cond-or}
use Rattle.thes_load_rows.specs.Forms.{HasPostingForm}
use Rattle.thes_post.specs.PostingCounts.{PostingCounts, CountsAfterLoad}
use Rattle.thes_load_rows.specs.RowsSoFar.{has_key, HasPostings, IsNextPosting}
use Rattle.thes_load_rows.proofs.PostingCountLemmas.{sums_push}
use Rattle.thes_load_rows.proofs.NextRowLemmas.{numbered_next, in_next, numbered_still, each_push, order_push, few_push}

abbrev key_of : PostingRow → List ℕ
key_of row = row.key

keys_exact : set.IsAntisymmetric (slice_cmp nat_cmp)
keys_exact = set.slice_cmp-IsAntisymmetric set.nat_cmp-IsAntisymmetric

any_append : (q key : List ℕ) (keys : List (List ℕ)) → has_key (keys ++ key ∷ []) q
    ≡ (eq_by_cmp (slice_cmp nat_cmp) q key || has_key keys q)
any_append q key keys = grind (arith, common_steps, or_swap)

module _ (rs : List Resource) (keys : List (List ℕ)) (firsts stored_places : List ℕ) (posting_counts : PostingCounts)
    (rows : List PostingRow) (p : PostingRow) (has : HasPostings rs keys firsts stored_places posting_counts rows) where
  count : length firsts ≡ length rows
  count = ap length has.firsts_are ∙ length-map rows (λ (x : PostingRow). x.first)

  pub not_next : (IsNextPosting rs (length firsts) p → ⊥) → (more : List PostingRow)
      → PostingRule rs (rows ++ p ∷ more) → ⊥
  not_next none more all =
      let there = in_next rows p more in
      none (record {
        number = all.numbers (length rows + 1) p (numbered_next rows p more) ∙ ap (λ k. k + 1) (sym count);
        first = (all.concepts p there).0;
        place = (all.concepts p there).1;
        live = all.live p there;
      })

  pub key_held : has_key keys p.key ≡ true → (more : List PostingRow) → PostingRule rs (rows ++ p ∷ more) → ⊥
  key_held held more all =
      let row = in_map key_of p.key rows (in_any nat_list_cmp_total keys_exact p.key (map key_of rows)
      (sym (has.keys_are p.key) ∙ held)) in
      let at = in_numbered rows row.0 row.1 in
      let same = all.keys at.0 (length rows + 1) row.0 p (numbered_still rows (p ∷ more) at.0 row.0 at.1)
      (numbered_next rows p more) (sym row.2) in
      let b = (numbered_bound rows at.0 row.0 at.1).1 in
      omega (arith, same, b)

  -- If an earlier row has the key of the next row, the key is among those of the load.
  row_held : (n : ℕ) (row : PostingRow) → entry_at rows n ≡ Some row → row.key ≡ p.key → has_key keys p.key ≡ true
  row_held n row e same = has.keys_are p.key ∙ ap (has_key (map key_of rows)) (sym same) ∙ any_in nat_list_cmp_total
      keys_exact row.key (map key_of rows) (map_in key_of row rows (numbered_in rows n row e))

  keys_push : has_key keys p.key ≡ false → (m n : ℕ) (x y : PostingRow) → entry_at (rows ++ p ∷ []) m ≡ Some x
      → entry_at (rows ++ p ∷ []) n ≡ Some y → x.key ≡ y.key → m ≡ n
  keys_push free m n x y ex ey same = grind (arith, common_steps, clash, push_cases, row_held)

  -- After a row that may be the next one is added, the load has the rows so far and that row.
  pub next_taken : (new : List (List ℕ)) → IsNextPosting rs (length firsts) p → HasPostingForm p → has_key keys p.key
      ≡ false → ((q : List ℕ) → has_key new q ≡ cond (eq_by_cmp (slice_cmp nat_cmp) p.key q) true (has_key keys q))
      → (told : PostingCounts) → CountsAfterLoad p.place p.withdrawn posting_counts told
      → HasPostings rs new (firsts ++ p.first ∷ []) (stored_places ++ p.place ∷ []) told (rows ++ p ∷ [])
  next_taken new next form free updates told is =
      let last : p.number ≡ length rows + 1 = next.number ∙ ap (λ k. k + 1) count in
      record {
        rule = record {
          few = few_push (λ (x : PostingRow). x.number) rows p last form.0;
          numbers = order_push (λ (x : PostingRow). x.number) rows p has.rule.numbers last;
          forms = each_push (λ (x : PostingRow). IsPostingForm x.key x.rec) rows p has.rule.forms form.1;
          keys = keys_push free;
          concepts = each_push (λ (x : PostingRow). IsConcept rs x.first × IsConcept rs x.place) rows p
              has.rule.concepts (next.first, next.place);
          live = each_push (λ (x : PostingRow). x.withdrawn ≡ false → is_live_concept rs x.place ≡ true) rows p
              has.rule.live next.live;
        };
        keys_are = λ q. updates q ∙ cond-or (eq_by_cmp (slice_cmp nat_cmp) p.key q) (has_key keys q)
            ∙ ap (λ b. b || has_key keys q) ((eq_by_cmp_equiv nat_list_cmp_total).symm p.key q)
            ∙ ap (λ b. eq_by_cmp (slice_cmp nat_cmp) q p.key || b) (has.keys_are q)
            ∙ sym (any_append q p.key (map key_of rows)) ∙ ap (λ l. has_key l q)
            (sym (map-append key_of rows (p ∷ [])));
        firsts_are = ap (λ (l : List ℕ). l ++ p.first ∷ []) has.firsts_are
            ∙ sym (map-append (λ (x : PostingRow). x.first) rows (p ∷ []));
        stored_places_are = ap (λ (l : List ℕ). l ++ p.place ∷ []) has.stored_places_are
            ∙ sym (map-append (λ (x : PostingRow). x.place) rows (p ∷ []));
        posting_counts_are = sums_push rows p posting_counts told has.posting_counts_are is;
      }

-- A new load has no rows.
pub postings_none : (rs : List Resource) (keys : List (List ℕ)) (firsts stored_places : List ℕ)
    (posting_counts : PostingCounts) → keys ≡ [] → firsts ≡ [] → stored_places ≡ [] → posting_counts ≡ record {
      counts = [];
      accepted = 0;
      withdrawn = 0;
      moves = 0;
    } → HasPostings rs keys firsts stored_places posting_counts []
postings_none rs keys firsts stored_places posting_counts no_keys no_firsts no_ats no_sums =
    grind (arith, common_steps, numbered_bound)
