use Rattle.std.proofs.Common.{ℕ, List, ◌+◌, ◌-◌, ◌*◌, ◌≤◌, length, Contains, arith, refl}
use Rattle.thes_base.specs.declared.data.Link.{Link}
use Rattle.thes_links.specs.declared.side.Side.TheVariants.{Sideways}
use Rattle.thes_links.specs.LinkEdit.{HeldAfter, CoversAt}
use Rattle.thes_links.specs.Steps.{Steps, Reaches}
use Rattle.thes_walks.specs.SideSearch.{read_cost, AreTied, AreAmong, IsSideSearch, LeadsTo, IsReadBounded}
use Rattle.thes_walks.proofs.AdvanceLemmas.{IsSideSearch-paid, IsSideSearch-reach}
use Rattle.thes_walks.proofs.upward_link.check_second_search.Given.{Over}
use Rattle.thes_walks.proofs.upward_link.check_second_search.Goals as goal
use Rattle.thes_walks.proofs.upward_link.check_second_search.Goals.{Then-branch, Else-branch, In_ok-are_tied}

-- If the search found a goal, a chain leads to it.
led : (g : Over) (c : Then-branch g) (kept : List ℕ) → AreAmong kept c.args.ended.now → (start read : ℕ)
    → IsSideSearch c.args.along.now.edit (g.L.Links.net c.args.links.now).links c.args.along.now.relation kept start
    c.args.other.now
    read
    → LeadsTo c.args.along.now.edit (g.L.Links.net c.args.links.now).links c.args.along.now.relation c.args.ended.now
    start
    × IsReadBounded c.args.along.now.edit (g.L.Links.net c.args.links.now).links c.args.along.now.relation start
    (read + (g.L.Links.count c.finish.new.links - g.L.Links.count c.args.links.now))
led g c = rw c.if-branch.true at c.in_ok-finish.ensures.continues

-- If the search found no goal, IsSideSearch describes its state.
on : (g : Over) (c : Else-branch g) (kept : List ℕ) → AreAmong kept c.args.ended.now → (start read : ℕ)
    → IsSideSearch c.args.along.now.edit (g.L.Links.net c.args.links.now).links c.args.along.now.relation kept start
    c.args.other.now
    read
    → IsSideSearch c.args.along.now.edit (g.L.Links.net c.args.links.now).links c.args.along.now.relation kept start
    c.finish.new.self (read + (g.L.Links.count c.finish.new.links - g.L.Links.count c.args.links.now))
on g c = rw c.if-branch.false at c.in_ok-finish.ensures.continues

-- The search and the reading of related links together make a bounded number of visits.
cost : (g : Over) (c : In_ok-are_tied g) (kept : List ℕ) (start read : ℕ) (ns : List Link)
    → AreAmong kept c.args.ended.now
    → IsSideSearch c.args.along.now.edit (g.L.Links.net c.args.links.now).links c.args.along.now.relation kept start
    c.args.other.now
    read
    → ((n : ℕ) → Reaches (Steps c.args.along.now.relation
    (HeldAfter c.args.along.now.edit (g.L.Links.net c.args.links.now).links))
    start n → CoversAt c.args.along.now.edit (g.L.Links.net c.args.links.now).links n ns)
    → ((n : ℕ) → Contains c.args.ended.now n
    → CoversAt c.args.along.now.edit (g.L.Links.net c.args.links.now).links n ns)
    → read + g.L.Links.count c.are_tied.new.links ≤ g.L.Links.count c.args.links.now + 2 * length ns
    + read_cost c.args.along.now.edit Sideways c.args.ended.now ns
cost g c kept start read ns among is covers there =
    let side_search : IsSideSearch c.args.along.now.edit (g.L.Links.net c.args.links.now).links
    c.args.along.now.relation kept start
    c.finish.new.self (read + (g.L.Links.count c.finish.new.links - g.L.Links.count c.args.links.now)) =
    (rw c.if-branch.false at c.in_ok-finish.ensures.continues) kept among start read is in
    let more : g.L.Links.count c.are_tied.new.links ≤ g.L.Links.count c.finish.new.links + read_cost
    c.args.along.now.edit
    Sideways c.args.ended.now ns = c.in_ok-are_tied.ensures.count ns (rw c.in_ok-finish.ensures.net there) in
    omega (
      arith,
      more,
      IsSideSearch-paid c.args.along.now.edit (g.L.Links.net c.args.links.now).links c.args.along.now.relation kept
          start
          c.requires.hierarchy c.finish.new.self _ side_search ns covers,
    )

pub returns-then-have_none-clause-rest : goal.returns-then-have_none-clause-rest
returns-then-have_none-clause-rest g c kept start read among is x y has reach related =
    (c.if-have_none.ensures refl x has).none y related

pub returns-then-have_none-clause-count : goal.returns-then-have_none-clause-count
returns-then-have_none-clause-count g c kept start read ns among is covers _ =
    omega (
      arith,
      IsSideSearch-paid c.args.along.now.edit (g.L.Links.net c.args.links.now).links c.args.along.now.relation kept
          start
          c.requires.hierarchy c.args.other.now read is ns covers,
    )

pub returns-then-branch-clause-rest : goal.returns-then-branch-clause-rest
returns-then-branch-clause-rest g c kept start read among is =
    (led g (goal.at.returns-then-branch-clause-rest g c).Then-branch kept among start read is).0

pub returns-then-branch-clause-count : goal.returns-then-branch-clause-count
returns-then-branch-clause-count g c kept start read ns among is covers _ =
    omega (
      arith,
      (led g (goal.at.returns-then-branch-clause-count g c).Then-branch kept among start read is).1 ns covers,
    )

pub returns-then-branch-2-clause-rest : goal.returns-then-branch-2-clause-rest
returns-then-branch-2-clause-rest g c kept start read among is =
    let tied : AreTied c.args.along.now.edit (g.L.Links.net c.args.links.now).links c.args.ended.now
    c.finish.new.self.nodes =
    rw (c.if-branch-2.true, c.in_ok-finish.ensures.net) at c.in_ok-are_tied.ensures.tied in (
      tied.0,
      tied.1,
      tied.2,
      (on g (goal.at.returns-then-branch-2-clause-rest g c).Else-branch kept among start read is).closed.sound tied.1
          tied.3,
      tied.4,
    )

pub returns-then-branch-2-clause-count : goal.returns-then-branch-2-clause-count
returns-then-branch-2-clause-count g c = cost g (goal.at.returns-then-branch-2-clause-count g c).In_ok-are_tied

pub returns-clause-rest : goal.returns-clause-rest
returns-clause-rest g c kept start read among is =
    let untied : AreTied c.args.along.now.edit (g.L.Links.net c.args.links.now).links c.args.ended.now
    c.finish.new.self.nodes
    → ⊥ = rw (c.if-branch-2.false, c.in_ok-finish.ensures.net) at c.in_ok-are_tied.ensures.tied in
    λ x y has reach steps.
    untied (
      x,
      y,
      has,
      (IsSideSearch-reach c.args.along.now.edit (g.L.Links.net c.args.links.now).links c.args.along.now.relation kept
          start
          c.finish.new.self _ (c.in_ok-finish.ensures.done c.if-branch.false)
          (on g (goal.at.returns-clause-rest g c).Else-branch kept among start read is)).complete y reach,
      steps,
    )

pub returns-clause-count : goal.returns-clause-count
returns-clause-count g c = cost g (goal.at.returns-clause-count g c).In_ok-are_tied
