use Rattle.std.proofs.Common.{◌≡◌, ◌≢◌, ◌+◌, ℕ, Bool, false, Result, Ok, Err, rules, ap, sym, refl, subst, ◌∙◌}
use Rattle.std.specs.BTreeSet.{insert_key}
use Rattle.std.specs.FinSet.{from_list}
use Rattle.std.specs.Result.{OnErr}
use Rattle.thes_base.specs.declared.data.Link.{Link}
use Rattle.thes_base.specs.Links.{Links, Holds, normal_form}
use Rattle.thes_links.specs.GraphView.{is_marked}
use Rattle.thes_links.proofs.NormLemmas.{norm_again, norm_two}
use Rattle.thes_graph.specs.Index.{IsIndexed}
use Rattle.thes_graph.proofs.CountLemmas.{counted_index, counted_index_same, indexed_same, insert_held, keys_of, links_in_is}
use Rattle.thes_graph.proofs.CountLemmas.{links_in_same, test_seen, total_by_keys, total_with, view_by_keys, view_of}
use Rattle.thes_graph.proofs.IndexLemmas.{row_sorted, other_sorted, IsIndexed-added, GraphView-added}
use Rattle.thes_graph.proofs.LinkOrderLemmas.{derived_link_cmp}
use Rattle.thes_graph.proofs.graph.Graph.add.Goals as goal
use Rattle.thes_graph.proofs.graph.Graph.add.Goals.{After-insert-2, In_ok-reserve_ends}

-- The index stays correct when room is reserved, since the rows keep their values.
indexed : (c : In_ok-reserve_ends) → IsIndexed (keys_of c.self.inside.rows) c.reserve_ends.new.rows
    c.self.inside.marked.keys
indexed c = indexed_same c.self.inside.marked.keys c.self.inside.rows c.reserve_ends.new.rows c.self.inside.total
    c.in_ok-reserve_ends.ensures.same c.self.invariant

-- The ends of the link in normal form differ.
two : (c : In_ok-reserve_ends) → c.normal-new.result.a ≢ c.normal-new.result.b
two c = subst (λ (l : Link). l.a ≢ l.b) (sym c.normal-new.ensures)
    (norm_two (is_marked c.args.self.now) c.args.link.now c.requires)

-- What holds anyway also holds after an error.
on_error : {T E P : Type 0} (r : Result T E) → P → OnErr r P
on_error (Ok x) p = tt
on_error (Err e) p = p

pub returns-then-holds-clause-ok : goal.returns-then-holds-clause-ok
returns-then-holds-clause-ok c =
    ap (λ (links : Links). view_of links c.args.self.now.outside)
    (sym (insert_held c.args.self.now.links (normal_form (is_marked c.args.self.now) c.args.link.now)
    (subst (Holds c.args.self.now.links) c.normal-new.ensures (sym c.if-holds.ensures.holds))))

pub invariant_of-self : goal.invariant_of-self
invariant_of-self c = counted_index_same c.self.inside.marked.keys c.self.inside.rows c.reserve_ends.new.rows
    c.self.inside.total c.in_err-reserve_ends.ensures.same c.self.invariant

pub returns-in_err-reserve_ends-clause-err : goal.returns-in_err-reserve_ends-clause-err
returns-in_err-reserve_ends-clause-err c =
    on_error c.from_residual.result
    (ap (λ (links : Links). view_of links (from_list c.self.inside.marked.keys))
    (links_in_same c.self.inside.marked.keys c.self.inside.rows c.reserve_ends.new.rows c.self.inside.total
    c.in_err-reserve_ends.ensures.same c.self.invariant)
    ∙ c.self.view_is)

pub insert-requires-clause-rises : goal.insert-requires-clause-rises
insert-requires-clause-rises c =
    row_sorted (keys_of c.self.inside.rows) c.self.inside.marked.keys c.reserve_ends.new.rows
    (indexed (goal.at.insert-requires-clause-rises c).In_ok-reserve_ends) c.normal-new.result.a

pub insert-requires-2-clause-room : goal.insert-requires-2-clause-room
insert-requires-2-clause-room c =
    c.insert.ensures.rooms c.normal-new.result.b
    (λ e. two (goal.at.insert-requires-2-clause-room c).In_ok-reserve_ends (sym e))
    c.in_ok-reserve_ends.ensures.rooms.1

pub insert-requires-2-clause-rises : goal.insert-requires-2-clause-rises
insert-requires-2-clause-rises c =
    other_sorted (keys_of c.self.inside.rows) c.self.inside.marked.keys c.reserve_ends.new.rows
    (indexed (goal.at.insert-requires-2-clause-rises c).In_ok-reserve_ends) c.insert.new.self c.normal-new.result.a
    c.normal-new.result.b _ (two (goal.at.insert-requires-2-clause-rises c).In_ok-reserve_ends) c.insert.ensures.list

-- The index is correct with the link in the rows of both its ends.
added : (c : After-insert-2) → IsIndexed (insert_key derived_link_cmp (keys_of c.self.inside.rows) c.normal-new.result)
    c.insert-2.new.self c.self.inside.marked.keys
added c =
    IsIndexed-added (keys_of c.self.inside.rows) c.self.inside.marked.keys c.reserve_ends.new.rows
    (indexed_same c.self.inside.marked.keys c.self.inside.rows c.reserve_ends.new.rows c.self.inside.total
    c.in_ok-reserve_ends.ensures.same c.self.invariant)
    c.insert.new.self c.insert-2.new.self c.normal-new.result c.sided_link_of.result c.sided_link_of-2.result
    c.sided_link_of.ensures c.sided_link_of-2.ensures
    (subst (λ (l : Link). l.a ≢ l.b) (sym c.normal-new.ensures)
    (norm_two (is_marked c.args.self.now) c.args.link.now c.requires))
    (insert_key derived_link_cmp (keys_of c.self.inside.rows) c.normal-new.result)
    (subst (λ (f : ℕ → Bool). normal_form f c.normal-new.result ≡ c.normal-new.result)
    (sym (ap is_marked c.self.view_is))
    (ap (normal_form (is_marked c.args.self.now)) c.normal-new.ensures ∙ norm_again (is_marked c.args.self.now)
    c.args.link.now ∙ sym c.normal-new.ensures))
    refl c.insert.ensures.list c.insert-2.ensures.list

pub invariant_of-self-2 : goal.invariant_of-self-2
invariant_of-self-2 c =
    let more : c.self.inside.total + 1 ≡ c.in-Some.total = search rules in
    counted_index (insert_key derived_link_cmp (keys_of c.self.inside.rows) c.normal-new.result) c.insert-2.new.self
    c.self.inside.marked.keys (added (goal.at.invariant_of-self-2 c).After-insert-2) _
    (sym more ∙ total_with (keys_of c.self.inside.rows) c.normal-new.result c.self.inside.total
    (total_by_keys c.self.inside.rows c.self.inside.marked.keys c.self.inside.total c.self.invariant)
    (test_seen c.self.inside.rows c.self.inside.marked.keys c.self.inside.total c.self.invariant c.args.self.now
    c.self.view_is c.normal-new.result false c.if-holds.ensures.holds))

pub returns-clause-ok : goal.returns-clause-ok
returns-clause-ok c =
    let ks = keys_of c.self.inside.rows in
    let outside = c.self.inside.marked.keys in
    let keys = insert_key derived_link_cmp ks c.normal-new.result in
    ap (λ (links : Links). view_of links (from_list outside))
    (links_in_is keys c.insert-2.new.self outside (added (goal.at.returns-clause-ok c).After-insert-2))
    ∙ GraphView-added ks keys (from_list outside) c.args.self.now c.normal-new.result
    (normal_form (is_marked c.args.self.now) c.args.link.now)
    (view_by_keys c.self.inside.rows (from_list outside) c.args.self.now c.self.view_is) refl c.normal-new.ensures
