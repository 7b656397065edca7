use Rattle.std.proofs.Common.{◌≡◌, ◌+◌, ◌≤◌, ℕ, List, get_or, take, length, below_more, arith, ap, sym, subst, ◌∙◌}
use Rattle.std.proofs.Common.{Contains, sum_by, false}
use Rattle.std.proofs.lemmas.List.{get_or_default, take_more}
use Rattle.std.proofs.lemmas.List.Elements.{Contains-get_or}
use Rattle.std.proofs.lemmas.List.Sums.{sum_by_push, sum_by_more_le}
use Rattle.thes_base.specs.declared.data.Link.{Link}
use Rattle.thes_links.specs.declared.relation.Relation.TheVariants.{Related}
use Rattle.thes_links.specs.declared.side.Side.TheVariants.{Sideways}
use Rattle.thes_links.specs.LinkEdit.{HeldAfter, CoversAt}
use Rattle.thes_links.specs.Steps.{Steps}
use Rattle.thes_walks.specs.SideSearch.{IsSearchResult, link_visits, read_cost}
use Rattle.thes_walks.proofs.upward_link.are_tied.Given.{Over}
use Rattle.thes_walks.proofs.upward_link.are_tied.Goals as goal
use Rattle.thes_walks.proofs.upward_link.are_tied.Goals.{In_ok-follow_after_edit}
use Rattle.thes_walks.proofs.SideSearchLemmas.{item_at}

-- The visits up to and including this node are at most the cost of reading the nodes so far.
read_here : (g : Over) (c : In_ok-follow_after_edit g) (ns : List Link)
    → ((n : ℕ) → Contains c.args.xs.now n → CoversAt c.args.edit.now (g.L.Links.net c.args.links.now).links n ns)
    → g.L.Links.count c.follow_after_edit.new.links ≤ g.L.Links.count c.args.links.now + read_cost c.args.edit.now
    Sideways (take c.loop-x.x-index c.args.xs.now) ns
    + sum_by (link_visits c.args.edit.now (get_or c.args.xs.now c.loop-x.x-index 0) Sideways) ns
read_here g c ns covers =
    let item = item_at _ c.args.xs.now c.loop-x.x-index c.x-item.result c.as_slice-x-items.ensures c.loop-x-test.true
    c.x-item.is in
    let w : ℕ → ℕ = λ n. sum_by (link_visits c.args.edit.now n Sideways) ns in
    let P : ℕ → Type 0 = λ n. CoversAt c.args.edit.now (g.L.Links.net c.args.links.now).links n ns in
    let here : P c.x-item.result =
    subst P (sym item.1) (covers (get_or c.args.xs.now c.loop-x.x-index 0)
    (Contains-get_or c.args.xs.now c.loop-x.x-index 0 item.0)) in
    let now : g.L.Links.count c.follow_after_edit.new.links ≤ g.L.Links.count c.loop-x.links + w c.x-item.result =
    c.in_ok-follow_after_edit.ensures.count ns (rw c.loop-x.invariant.net here) in
    omega (arith, now, ap w item.1, c.loop-x.invariant.count ns covers)

pub returns-then-branch-clause-count : goal.returns-then-branch-clause-count
returns-then-branch-clause-count g c ns covers =
    let item = item_at _ c.args.xs.now c.loop-x.x-index c.x-item.result c.as_slice-x-items.ensures c.loop-x-test.true
    c.x-item.is in
    omega (
      arith,
      read_here g (goal.at.returns-then-branch-clause-count g c).In_ok-follow_after_edit ns covers,
      sum_by_more_le (λ n. sum_by (link_visits c.args.edit.now n Sideways) ns) c.args.xs.now c.loop-x.x-index 0 item.0,
    )

pub loop-x-preserved : goal.loop-x-preserved
loop-x-preserved g c =
    let S : ℕ → ℕ → Type 0 = Steps Related (HeldAfter c.args.edit.now (g.L.Links.net c.args.links.now).links) in
    let item = item_at _ c.args.xs.now c.loop-x.x-index c.x-item.result c.as_slice-x-items.ensures c.loop-x-test.true
    c.x-item.is in
    let finds : IsSearchResult false c.loop-x.met c.follow_after_edit.new.nodes c.args.ys.now (S c.x-item.result) =
    rw (c.if-branch.false, c.loop-x.invariant.net) at c.in_ok-follow_after_edit.ensures.finds in
    record {
      net = c.in_ok-follow_after_edit.ensures.net ∙ c.loop-x.invariant.net;
      none = below_more (λ k. (y : ℕ) → Contains c.args.ys.now y → S (get_or c.args.xs.now k 0) y → ⊥)
          c.loop-x.x-index c.loop-x.invariant.none
          (λ y has steps. finds.1 y has (let P : ℕ → Type 0 = λ w. S w y in subst P (sym item.1) steps));
      count = λ ns covers.
          let w : ℕ → ℕ = λ n. sum_by (link_visits c.args.edit.now n Sideways) ns in
          let sum : sum_by w (take (c.loop-x.x-index + 1) c.args.xs.now)
          ≡ sum_by w (take c.loop-x.x-index c.args.xs.now) + w (get_or c.args.xs.now c.loop-x.x-index 0) =
          ap (sum_by w) (take_more c.args.xs.now c.loop-x.x-index 0 item.0)
          ∙ sum_by_push w (take c.loop-x.x-index c.args.xs.now) (get_or c.args.xs.now c.loop-x.x-index 0) in
          omega (arith, read_here g (goal.at.loop-x-preserved g c).In_ok-follow_after_edit ns covers, sum);
    }

pub returns-clause-tied : goal.returns-clause-tied
returns-clause-tied g c (x, y, (k, lt, is), in_ys, steps) =
    let P : ℕ → Type 0 = λ w. Steps Related (HeldAfter c.args.edit.now (g.L.Links.net c.args.links.now).links) w y in
    c.loop-x.invariant.none k (omega (arith, lt, c.loop-x-test.false, ap length c.as_slice-x-items.ensures)) y in_ys
    (subst P (sym is ∙ get_or_default c.args.xs.now k x 0 lt) steps)
