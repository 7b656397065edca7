-- Collecting the reachable nodes keeps the invariant of the loop, finds exactly these nodes, and takes at most two
-- visits for each link.
use Rattle.std.proofs.Common.{◌≡◌, ◌+◌, ◌*◌, ◌≤◌, ◌<◌, inl, inr, ℕ, List, [], ◌∷◌, ◌++◌, length, take, get_or, ap}
use Rattle.std.proofs.Common.{sym, subst, ◌∙◌, arith, Contains, sum_by, below_more, length-append, None, slice_get}
use Rattle.std.proofs.lemmas.List.{take_more, take-append-le, get_or_append_left, get_or_default}
use Rattle.std.proofs.lemmas.List.Elements.{Contains-append_left, Contains-append_right, Contains-append_cases}
use Rattle.std.proofs.lemmas.List.Elements.{Contains-get_or}
use Rattle.std.proofs.lemmas.List.Sums.{sum_by_push}
use Rattle.std.proofs.Math.Seq.{take-length}
use Rattle.thes_base.specs.declared.data.Link.{Link}
use Rattle.thes_base.specs.Links.{Links, HasEnd}
use Rattle.thes_links.specs.declared.relation.Relation.{Relation}
use Rattle.thes_links.specs.declared.edit.LinkEdit.{LinkEdit}
use Rattle.thes_links.specs.Steps.{direction_of, Steps, IsSearchedUpTo, GrowsBy}
use Rattle.thes_links.specs.LinkEdit.{HeldAfter, ends_at_node, IsReadOf, CoversAt, row_after_edit}
use Rattle.thes_links.specs.Rules.{IsReachableSet}
use Rattle.thes_links.proofs.StepLemmas.{Leads-first}
use Rattle.thes_links.proofs.ReachLemmas.{IsSearchedUpTo-start, IsSearchedUpTo-more, IsSearchedUpTo-end}
use Rattle.thes_links.proofs.EditLemmas.{row_after_edit-sound, row_after_edit-complete}
use Rattle.thes_links.proofs.CountLemmas.{met_twice}
use Rattle.thes_links.proofs.WeightLemmas.{past_of_none}

-- The state of the collection: the first i nodes are read, and their visits have raised the count from `from` to
-- `count`.
pub record IsGatherState (edit : LinkEdit) (held : Links) (relation : Relation) (start : ℕ) (nodes : List ℕ)
    (links : List Link) (i from count : ℕ) : Type 0 where
  pub closed : IsSearchedUpTo (Steps relation (HeldAfter edit held)) start nodes i
  pub sound : (l : Link) → Contains links l → HeldAfter edit held l
  pub complete : (l : Link) → HeldAfter edit held l → (k : ℕ) → k < i → HasEnd (get_or nodes k 0) l → Contains links l
  pub cost : (ns : List Link) → ((k : ℕ) → k < i → CoversAt edit held (get_or nodes k 0) ns) → count ≤ from
      + sum_by (λ n. sum_by (ends_at_node edit n) ns) (take i nodes)
  pub within : i ≤ length nodes

module _ (edit : LinkEdit) (held : Links) (relation : Relation) (start : ℕ) where
  pub IsGatherState-start : (from : ℕ) → IsGatherState edit held relation start (start ∷ []) [] 0 from from
  IsGatherState-start from = record {
    closed = IsSearchedUpTo-start (Steps relation (HeldAfter edit held)) start;
    sound = λ l (k, lt, e). absurd (omega arith);
    complete = λ l w k lt. absurd (omega arith);
    cost = λ ns covers. omega arith;
    within = omega arith;
  }

  -- One iteration of the loop, which reads the next node, keeps the state.
  pub IsGatherState-more : (nodes later : List ℕ) (links raw : List Link) (i x from before count : ℕ) → i
      < length nodes → x ≡ get_or nodes i 0
      → IsReadOf edit held x raw
      → GrowsBy nodes later (Steps relation (Contains (row_after_edit edit raw)) x)
      → ((ns : List Link) → CoversAt edit held x ns → count ≤ before + sum_by (ends_at_node edit x) ns)
      → IsGatherState edit held relation start nodes links i from before
      → IsGatherState edit held relation start later (links ++ row_after_edit edit raw) (i + 1) from count
  IsGatherState-more nodes later links raw i x from before count inside at is grows cost walked = record {
    closed = IsSearchedUpTo-more (Steps relation (HeldAfter edit held)) start nodes later i x inside at
        (record {
          extends = grows.extends;
          has_new = λ y (l, would, leads). grows.has_new y (
            l,
            row_after_edit-complete held x raw edit is l would
                (Leads-first (direction_of relation l.kind) l.a l.b x y leads),
            leads,
          );
          no_others = λ y has. elim (grows.no_others y has) [
            | inl old ↦ inl old
            | inr (l, has_l, leads) ↦ inr
                (l, row_after_edit-sound held x raw edit is l has_l, leads)
          ];
          distinct = grows.distinct;
        })
        walked.closed;
    sound = λ l has. elim (Contains-append_cases links (row_after_edit edit raw) l has) [
      | inl old ↦ walked.sound l old
      | inr new ↦ row_after_edit-sound held x raw edit is l new
    ];
    complete = λ l would. below_more (λ k. HasEnd (get_or later k 0) l → Contains (links ++ row_after_edit edit raw)
        l) i
        (λ k lt ends. Contains-append_left links (row_after_edit edit raw) l
        (walked.complete l would k lt (let P : ℕ → Type 0 = λ n. HasEnd n l in
        subst P (same k (omega arith)) ends)))
        (λ ends. Contains-append_right links (row_after_edit edit raw) l
        (row_after_edit-complete held x raw edit is l would (let P : ℕ → Type 0 = λ n. HasEnd n l in
        subst P (same i inside ∙ sym at) ends)));
    cost = λ ns covers.
        let weight : ℕ → ℕ = λ n. sum_by (ends_at_node edit n) ns in
        let old : before ≤ from + sum_by weight (take i nodes) =
        walked.cost ns (λ k lt. let P : ℕ → Type 0 = λ n. CoversAt edit held n ns in
        subst P (same k (omega arith)) (covers k (omega arith))) in
        let new : count ≤ before + weight x = cost ns (let P : ℕ → Type 0 = λ n. CoversAt edit held n ns in
        subst P (same i inside ∙ sym at) (covers i (omega arith))) in
        let has_new : sum_by weight (take (i + 1) later) ≡ sum_by weight (take i nodes) + weight x =
        ap (sum_by weight) next ∙ sum_by_push weight (take i nodes) x in
        omega arith;
    within = grown;
  }
    where
      same : (k : ℕ) → k < length nodes → get_or later k 0 ≡ get_or nodes k 0
      same k lt = rw grows.extends.1 (get_or_append_left nodes grows.extends.0 0 k lt)

      next : take (i + 1) later ≡ take i nodes ++ x ∷ []
      next = ap (take (i + 1)) grows.extends.1 ∙ take-append-le (i + 1) nodes grows.extends.0 (omega arith)
          ∙ take_more nodes i 0 inside ∙ ap (λ n. take i nodes ++ n ∷ []) (sym at)

      grown : i + 1 ≤ length later
      grown = omega (arith, ap length grows.extends.1, length-append nodes grows.extends.0)

  pub set_gathered : (nodes : List ℕ) (links : List Link) (i from count : ℕ) → slice_get nodes i ≡ None
      → IsGatherState edit held relation start nodes links i from count
      → IsReachableSet (HeldAfter edit held) relation start nodes links
  set_gathered nodes links i from count none walked = record {
    reach = IsSearchedUpTo-end (Steps relation (HeldAfter edit held)) start nodes i (past_of_none nodes i none)
        walked.closed;
    sound = walked.sound;
    complete = λ l would n (k, lt, is) ends.
        walked.complete l would k (omega (arith, past_of_none nodes i none)) (let P : ℕ → Type 0 = λ m. HasEnd m l in
        subst P (sym is ∙ get_or_default nodes k n 0 lt) ends);
  }

  -- At the end the count has grown by at most two visits for each link at a collected node.
  pub gather_cost : (nodes : List ℕ) (links : List Link) (i from count : ℕ) → slice_get nodes i ≡ None
      → IsGatherState edit held relation start nodes links i from count
      → (ns : List Link) → ((n : ℕ) → Contains nodes n → CoversAt edit held n ns) → count ≤ from + 2 * length ns
  gather_cost nodes links i from count none walked ns covers =
      let whole : take i nodes ≡ nodes = ap (λ j. take j nodes) all ∙ take-length nodes in
      let cost : count ≤ from + sum_by weight (take i nodes) =
      walked.cost ns (λ k lt. covers (get_or nodes k 0) (Contains-get_or nodes k 0 (omega arith))) in
      let met : sum_by weight nodes ≤ 2 * length ns = met_twice edit nodes walked.closed.distinct ns in
      omega (arith, ap (sum_by weight) whole)
    where
      weight : ℕ → ℕ
      weight n = sum_by (ends_at_node edit n) ns

      all : i ≡ length nodes
      all = omega (arith, walked.within, past_of_none nodes i none)
