-- A step keeps the invariant of a search, and a search that is done has met exactly the nodes that its start reaches.
use Rattle.std.proofs.lemmas.Grind.{common_steps}
use Rattle.std.proofs.Common.{◌≡◌, ◌+◌, ◌≤◌, ◌<◌, ℕ, List, [], ◌∷◌, ◌++◌, length, take, get_or, ap, sym, subst, ◌∙◌}
use Rattle.std.proofs.Common.{arith, Contains, sum_by, below_more, length-append, append-nil, ◌≢◌, Bool, true, false}
use Rattle.std.proofs.Common.{nat_eq}
use Rattle.std.specs.List.{IsDistinct}
use Rattle.std.proofs.lemmas.List.{take_more, take-append-le, get_or_append_left, get_or_default}
use Rattle.std.proofs.lemmas.List.Elements.{Contains-get_or}
use Rattle.std.proofs.lemmas.List.Sums.{sum_by_push, sum_by-take-le}
use Rattle.thes_base.specs.declared.data.Link.{Link}
use Rattle.thes_base.specs.Links.{Links}
use Rattle.thes_links.specs.declared.relation.Relation.{Relation}
use Rattle.thes_links.specs.declared.side.Side.TheVariants.{Sideways}
use Rattle.thes_links.specs.declared.edit.LinkEdit.{LinkEdit}
use Rattle.thes_walks.specs.declared.side_search.SideSearch.{SideSearch}
use Rattle.thes_links.specs.Side.{side_in, side_no, IsOneSided}
use Rattle.thes_links.specs.declared.relation.Relation.TheVariants.{Broader, Narrower}
use Rattle.thes_links.specs.LinkEdit.{HeldAfter, CoversAt}
use Rattle.thes_links.specs.Steps.{Steps, Reaches, IsReachOf, IsSearchedUpTo}
use Rattle.thes_walks.specs.SideSearch.{IsSearchResult, link_visits, read_cost, IsHierarchy, IsSideSearch, LeadsTo}
use Rattle.thes_walks.specs.SideSearch.{IsReadBounded, IsAdvanceResult, AreAmong}
use Rattle.thes_links.proofs.PivotLemmas.{Reaches-then_chain, Chain-one}
use Rattle.thes_walks.proofs.ProbeLemmas.{Path-last}
use Rattle.thes_links.proofs.ReachLemmas.{no_others, IsSearchedUpTo-start, IsSearchedUpTo-more, IsSearchedUpTo-end}
use Rattle.thes_walks.proofs.ReadCostLemmas.{spent_one}

pub hierarchy_is_one_sided : (r : Relation) → IsHierarchy r → IsOneSided r
hierarchy_is_one_sided Broader h = tt
hierarchy_is_one_sided Narrower h = tt
hierarchy_is_one_sided _ h = absurd h

pub leads_one_way : (r : Relation) → IsHierarchy r → side_no (side_in r) ≢ side_no Sideways
leads_one_way Broader h = λ e. absurd (omega (arith, e))
leads_one_way Narrower h = λ e. absurd (omega (arith, e))
leads_one_way _ h = absurd h

module _ (edit : LinkEdit) (held : Links) (relation : Relation) (goals : List ℕ) (start : ℕ) where
  abbrev S : ℕ → ℕ → Type 0
  S = Steps relation (HeldAfter edit held)

  pub IsSideSearch-start : (side_search : SideSearch) → side_search.nodes ≡ start ∷ [] → side_search.next ≡ 0
      → IsSideSearch edit held relation goals start side_search 0
  IsSideSearch-start side_search nodes next = record {
    closed = subst (λ ns. IsSearchedUpTo S start ns side_search.next) (sym nodes)
        (subst (IsSearchedUpTo S start (start ∷ [])) (sym next) (IsSearchedUpTo-start S start));
    no_goal = λ k lt. absurd (omega (arith, next));
    cost = λ ns covers. omega arith;
    in_range = omega (arith, next);
  }

  module _ (walked : IsHierarchy relation) where
    -- Reading the first nodes takes at most one visit for each link at a node that the start reaches.
    paid_by : (nodes : List ℕ) (i read : ℕ) → IsDistinct nat_eq nodes
        → ((y : ℕ) → Contains nodes y → Reaches S start y) → i ≤ length nodes
        → ((ns : List Link) → ((k : ℕ) → k < i → CoversAt edit held (get_or nodes k 0) ns) → read
        ≤ read_cost edit (side_in relation) (take i nodes) ns)
        → IsReadBounded edit held relation start read
    paid_by nodes i read distinct sound in_range cost ns covers =
        let paid : read ≤ read_cost edit (side_in relation) (take i nodes) ns =
        cost ns (λ k lt. covers (get_or nodes k 0)
        (sound (get_or nodes k 0) (Contains-get_or nodes k 0 (omega arith)))) in
        omega (
          arith,
          paid,
          sum_by-take-le (λ n. sum_by (link_visits edit n (side_in relation)) ns) nodes i,
          spent_one edit relation walked nodes distinct ns,
        )

    pub IsSideSearch-paid : (side_search : SideSearch) (read : ℕ) → IsSideSearch edit held relation goals start
        side_search read → IsReadBounded edit held relation start read
    IsSideSearch-paid side_search read is = paid_by side_search.nodes side_search.next read is.closed.distinct
        is.closed.sound is.in_range is.cost

    module _ (old new : SideSearch) (x gone before after : ℕ) (inside : old.next < length old.nodes)
        (at : x ≡ get_or old.nodes old.next 0)
        (next : new.next ≡ old.next + 1) (read : after ≤ before + gone)
        (cost : (ns : List Link) → CoversAt edit held x ns → gone ≤ sum_by (link_visits edit x (side_in relation)) ns)
        (is : IsSideSearch edit held relation goals start old before) where
      -- Assumes that the next node was read, and the list of nodes has grown.
      module _ (nodes : List ℕ) (more : List ℕ) (grown : nodes ≡ old.nodes ++ more) where
        same : (k : ℕ) → k < length old.nodes → get_or nodes k 0 ≡ get_or old.nodes k 0
        same k lt = rw grown (get_or_append_left old.nodes more 0 k lt)

        longer : old.next + 1 ≤ length nodes
        longer = omega (arith, ap length grown, length-append old.nodes more)

        taken : take (old.next + 1) nodes ≡ take old.next old.nodes ++ x ∷ []
        taken = ap (take (old.next + 1)) grown ∙ take-append-le (old.next + 1) old.nodes more (omega arith)
            ∙ take_more old.nodes old.next 0 inside ∙ ap (λ n. take old.next old.nodes ++ n ∷ []) (sym at)

        spent_more : (ns : List Link) → ((k : ℕ) → k < old.next + 1 → CoversAt edit held (get_or nodes k 0) ns)
            → after ≤ read_cost edit (side_in relation) (take (old.next + 1) nodes) ns
        spent_more ns covers =
            let w : ℕ → ℕ = λ n. sum_by (link_visits edit n (side_in relation)) ns in
            let P : ℕ → Type 0 = λ n. CoversAt edit held n ns in
            let first : before ≤ sum_by w (take old.next old.nodes) =
            is.cost ns (λ k lt. subst P (same k (omega arith)) (covers k (omega arith))) in
            let now : gone ≤ w x = cost ns (subst P (same old.next inside ∙ sym at) (covers old.next (omega arith))) in
            let sum : sum_by w (take (old.next + 1) nodes) ≡ sum_by w (take old.next old.nodes) + w x =
            ap (sum_by w) taken ∙ sum_by_push w (take old.next old.nodes) x in
            omega (arith, first, now, sum, read)

      here : Contains old.nodes x
      here = subst (λ (w : ℕ). Contains old.nodes w) (sym at) (Contains-get_or old.nodes old.next 0 inside)

      pub IsAdvanceResult-more : (all : List ℕ) → AreAmong goals all → (found : Bool)
          → IsSearchResult found old.nodes new.nodes all (S x)
          → IsAdvanceResult edit held relation goals all start new after found
      IsAdvanceResult-more all among true (y, has, leads) = (
        (y, has, Reaches-then_chain S start x y (is.closed.sound x here) (Chain-one S x y leads)),
        paid_by old.nodes (old.next + 1) after is.closed.distinct is.closed.sound (omega arith)
            (spent_more old.nodes [] (sym (append-nil old.nodes))),
      )
      IsAdvanceResult-more all among false (grows, off) =
          let grown : new.nodes ≡ old.nodes ++ grows.extends.0 = grows.extends.1 in record {
            closed = subst (IsSearchedUpTo S start new.nodes) (sym next)
                (IsSearchedUpTo-more S start old.nodes new.nodes old.next x inside at grows is.closed);
            no_goal = λ k lt. below_more (λ k. (y : ℕ) → Contains goals y → S (get_or new.nodes k 0) y → ⊥) old.next
                (λ k lt y has leads. is.no_goal k lt y has (let P : ℕ → Type 0 = λ w. S w y in
                subst P (same new.nodes grows.extends.0 grown k (omega arith)) leads))
                (λ y has leads. off y (among y has) (let P : ℕ → Type 0 = λ w. S w y in
                subst P (same new.nodes grows.extends.0 grown old.next inside ∙ sym at) leads))
                k (omega (arith, next));
            cost = λ ns covers.
                let P : ℕ → Type 0 = λ i. after ≤ read_cost edit (side_in relation) (take i new.nodes) ns in
                subst P (sym next)
                (spent_more new.nodes grows.extends.0 grown ns (λ k lt. covers k (omega (arith, next))));
            in_range = omega (arith, next, longer new.nodes grows.extends.0 grown);
          }

  -- If all nodes are read, they are those that the start reaches, and no chain leads from the start to a goal.
  pub IsSideSearch-reach : (side_search : SideSearch) (read : ℕ) → length side_search.nodes ≤ side_search.next
      → IsSideSearch edit held relation goals start side_search read → IsReachOf S start side_search.nodes
  IsSideSearch-reach side_search read done is = IsSearchedUpTo-end S start side_search.nodes side_search.next done
      is.closed

  pub IsSideSearch-no_goal : (side_search : SideSearch) (read : ℕ) → length side_search.nodes ≤ side_search.next
      → IsSideSearch edit held relation goals start side_search read → LeadsTo edit held relation goals start → ⊥
  IsSideSearch-no_goal side_search read done is (y, has, (ms, path)) =
      let last = Path-last S start ms y path in
      let there = (IsSideSearch-reach side_search read done is).complete last.0 last.1 in
      let P : ℕ → Type 0 = λ w. S w y in
      is.no_goal there.0 (let lt : there.0 < length side_search.nodes = there.1 in omega arith) y has
      (subst P (sym there.2 ∙ get_or_default side_search.nodes there.0 last.0 0 there.1) last.2)

module _ (edit : LinkEdit) (held : Links) where
  -- A state of a search after some number of visits is also one after any smaller number.
  pub IsSideSearch-less : (relation : Relation) (goals : List ℕ) (start : ℕ) (side_search : SideSearch) (a b : ℕ) → a
      ≤ b → IsSideSearch edit held relation goals start side_search b → IsSideSearch edit held relation goals start
      side_search a
  IsSideSearch-less relation goals start side_search a b less is = grind (arith, common_steps)

  pub IsAdvanceResult-less : (relation : Relation) (kept goals : List ℕ) (start : ℕ) (side_search : SideSearch)
      (a b : ℕ) → a ≤ b → (found : Bool) → IsAdvanceResult edit held relation kept goals start side_search b found
      → IsAdvanceResult edit held relation kept goals start side_search a found
  IsAdvanceResult-less relation kept goals start side_search a b less true (leads, paid) =
      (leads, λ ns covers. omega (arith, less, paid ns covers))
  IsAdvanceResult-less relation kept goals start side_search a b less false is = IsSideSearch-less relation kept start
      side_search a b less is

  -- A search has met the node from which it started.
  pub has_start : (relation : Relation) (kept : List ℕ) (start : ℕ) (side_search : SideSearch) (read : ℕ)
      → IsSideSearch edit held relation kept start side_search read → AreAmong (start ∷ []) side_search.nodes
  has_start relation kept start side_search read is y has =
      subst (λ (w : ℕ). Contains side_search.nodes w) (no_others start y has) is.closed.starts
