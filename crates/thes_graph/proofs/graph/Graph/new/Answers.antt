use Rattle.std.proofs.Common.{List, ℕ, ap, sym, refl, [], ◌∙◌}
use Rattle.std.specs.Ordering.{nat_cmp}
use Rattle.std.specs.FinSet.{empty, from_list, len-empty}
use Rattle.thes_base.specs.Links.{Links, link_cmp}
use Rattle.thes_graph.proofs.IndexLemmas.{IsIndexed-none}
use Rattle.thes_graph.proofs.CountLemmas.{counted_index, links_in_is, view_of}
use Rattle.thes_graph.proofs.graph.Graph.new.Goals as goal

pub invariant_of-result : goal.invariant_of-result
invariant_of-result c = counted_index [] c.new.result c.new-2.result.keys (IsIndexed-none [] c.new.result
    c.new-2.result.keys refl c.new.ensures) 0 (sym (len-empty link_cmp))

pub returns : goal.returns
returns c =
    ap (λ (links : Links). view_of links (from_list c.new-2.result.keys))
    (links_in_is [] c.new.result c.new-2.result.keys (IsIndexed-none [] c.new.result c.new-2.result.keys refl
    c.new.ensures))
    ∙ ap (λ (keys : List ℕ). view_of empty (from_list {R = nat_cmp} keys)) c.new-2.ensures.empty
