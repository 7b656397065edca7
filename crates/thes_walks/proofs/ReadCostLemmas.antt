-- Reading two sides of distinct nodes takes at most two visits for each link; reading one side, up or down, takes at
-- most one.
use Rattle.std.proofs.lemmas.Grind.{common_steps}
use Rattle.std.proofs.Common.{◌≡◌, ◌≢◌, ◌==◌, ◌+◌, ◌*◌, ◌≤◌, inl, inr, ℕ, List, length, sym, subst, ◌∙◌, arith}
use Rattle.std.proofs.Common.{sum_by, Bool, true, false, refl, ◌&&◌, ◌||◌, if◌then◌else◌, nat_eq}
use Rattle.std.specs.List.{IsDistinct}
use Rattle.thes_base.specs.declared.data.Link.{Link}
use Rattle.std.proofs.lemmas.List.Sums.{sum_by-le-sum_by}
use Rattle.std.proofs.lemmas.Bool.{cases_eq}
use Rattle.thes_base.specs.declared.data.Direction.{Direction}
use Rattle.thes_base.specs.declared.data.Direction.TheVariants.{Forward, Backward, Either, Never}
use Rattle.thes_base.specs.Links.{broader_direction, related_direction, exact_direction}
use Rattle.thes_links.specs.declared.relation.Relation.{Relation}
use Rattle.thes_links.specs.declared.relation.Relation.TheVariants.{Broader, Narrower}
use Rattle.thes_links.specs.declared.side.Side.{Side}
use Rattle.thes_links.specs.declared.side.Side.TheVariants.{Sideways, Alike, Other}
use Rattle.thes_links.specs.declared.edit.LinkEdit.{LinkEdit}
use Rattle.thes_links.specs.declared.edit.LinkEdit.TheVariants.{NoEdit, WithLink, AfterMerge}
use Rattle.thes_links.specs.GraphView.{ends_at}
use Rattle.thes_links.specs.Side.{side_no, side_in, side_by_directions, if_either}
use Rattle.thes_links.specs.LinkEdit.{node_after, ends_at_node}
use Rattle.thes_walks.specs.SideSearch.{one_on_side, link_visits, read_cost, IsHierarchy}
use Rattle.thes_links.specs.Steps.{reverse_of}
use Rattle.thes_links.proofs.ReadLemmas.{one_at, sum_by-two}
use Rattle.thes_links.proofs.CountLemmas.{met_twice, met_at_most, sum_by-one_at}

-- The number 1 if the node is an end of the link, or else 0.
abbrev one_end : ℕ → Link → ℕ
one_end n l = if ends_at n l then 1 else 0

-- A link lies on at most one of two different sides of a node.
on_two : (n : ℕ) (j k : Side) (l : Link) → side_no j ≢ side_no k → one_on_side n j l + one_on_side n k l ≤ one_end n l
on_two n j k l differ = grind (arith, common_steps)

either_one : (a b : Bool) → (if a || b then 1 else 0) ≤ (if a then 1 else 0) + (if b then 1 else 0)
either_one true b = omega arith
either_one false b = omega arith

end_one : (n : ℕ) (l : Link) → one_end n l ≤ one_at l.a n + one_at l.b n
end_one n l = either_one (l.a == n) (l.b == n)

-- The end of a link from which it leads up in this direction.
abbrev foot : Direction → (a b : ℕ) → ℕ
foot Backward a b = b
foot _ a b = a

abbrev foot_test : Direction → (a b : Bool) → Bool
foot_test Backward a b = b
foot_test _ a b = a

foot_tested : (d : Direction) (a b n : ℕ) → (if foot_test d (a == n) (b == n) then 1 else 0) ≡ one_at (foot d a b) n
foot_tested Forward a b n = refl
foot_tested Backward a b n = refl
foot_tested Either a b n = refl
foot_tested Never a b n = refl

unless : (e : Bool) (s k : ℕ) → s ≢ k → ◌≡◌ {A = ℕ} (if e && (s == k) then 1 else 0) 0
unless true s k differ = grind arith
unless false s k differ = omega arith

-- If neither of two sides has the rank k, the one that `if_either` chooses doesn't have this rank.
level_side : (d : Direction) (x y : Side) (k : ℕ) → side_no x ≢ k → side_no y ≢ k → side_no (if_either d x y) ≢ k
level_side Forward x y k one other = other
level_side Backward x y k one other = other
level_side Either x y k one other = one
level_side Never x y k one other = other

level_up : (r e : Direction) → side_no (if_either r Sideways (if_either e Alike Other)) ≢ 1
level_up r e = level_side r Sideways (if_either e Alike Other) 1 (λ is. absurd (omega (arith, is)))
    (level_side e Alike Other 1 (λ is. absurd (omega (arith, is))) (λ is. absurd (omega (arith, is))))

level_down : (r e : Direction) → side_no (if_either r Sideways (if_either e Alike Other)) ≢ 4
level_down r e = level_side r Sideways (if_either e Alike Other) 4 (λ is. absurd (omega (arith, is)))
    (level_side e Alike Other 4 (λ is. absurd (omega (arith, is))) (λ is. absurd (omega (arith, is))))

up_one : (d r e : Direction) (a b : Bool) → (if (a || b) && (side_no (side_by_directions d a r e) == 1) then 1 else 0)
    ≤ (if foot_test d a b then 1 else 0)
up_one Forward r e true b = omega arith
up_one Forward r e false true = omega arith
up_one Forward r e false false = omega arith
up_one Backward r e true true = omega arith
up_one Backward r e true false = omega arith
up_one Backward r e false true = omega arith
up_one Backward r e false false = omega arith
up_one Either r e a b = omega (
  arith,
  unless (a || b) (side_no (if_either r Sideways (if_either e Alike Other))) 1
      (level_up r e),
)
up_one Never r e a b = omega (
  arith,
  unless (a || b) (side_no (if_either r Sideways (if_either e Alike Other))) 1
      (level_up r e),
)

down_one : (d r e : Direction) (a b : Bool) → (if (a || b) && (side_no (side_by_directions d a r e) == 4) then 1 else 0)
    ≤ (if foot_test (reverse_of d) a b then 1 else 0)
down_one Forward r e true true = omega arith
down_one Forward r e true false = omega arith
down_one Forward r e false true = omega arith
down_one Forward r e false false = omega arith
down_one Backward r e true b = omega arith
down_one Backward r e false true = omega arith
down_one Backward r e false false = omega arith
down_one Either r e a b = omega (
  arith,
  unless (a || b) (side_no (if_either r Sideways (if_either e Alike Other))) 4
      (level_down r e),
)
down_one Never r e a b = omega (
  arith,
  unless (a || b) (side_no (if_either r Sideways (if_either e Alike Other))) 4
      (level_down r e),
)

-- In a hierarchical relation (broader or narrower), a link lies on the relation's side at no more than one of its ends.
on_foot : (relation : Relation) → IsHierarchy relation → (l : Link) → (p : ℕ)
    × ((n : ℕ) → one_on_side n (side_in relation) l ≤ one_at p n)
on_foot Broader walked l = (
  foot (broader_direction l.kind) l.a l.b,
  λ n. omega (
    arith,
    up_one (broader_direction l.kind) (related_direction l.kind) (exact_direction l.kind) (l.a == n)
        (l.b == n),
    foot_tested (broader_direction l.kind) l.a l.b n,
  ),
)
on_foot Narrower walked l = (
  foot (reverse_of (broader_direction l.kind)) l.a l.b,
  λ n. omega (
    arith,
    down_one (broader_direction l.kind) (related_direction l.kind) (exact_direction l.kind)
        (l.a == n) (l.b == n),
    foot_tested (reverse_of (broader_direction l.kind)) l.a l.b n,
  ),
)
on_foot _ walked l = absurd walked

module _ (source target : ℕ) where
  target_one : source ≢ target → (x : ℕ) → one_at x target + one_at x source
      ≤ one_at (node_after (AfterMerge source target) x) target
  target_one two x = grind arith

  other_one : (n x : ℕ) → n ≢ source → one_at x n ≤ one_at (node_after (AfterMerge source target) x) n
  other_one n x off = grind arith

  -- The visits to a link at the target of a merge are those at the target and at the source.
  pub weight_target : target ≢ source → (side : Side) (l : Link) → link_visits (AfterMerge source target) target side l
      ≡ one_on_side target side l + one_on_side source side l
  weight_target off side l = grind (arith, common_steps)

  pub weight_other : (n : ℕ) → n ≢ source → n ≢ target → (side : Side) (l : Link)
      → link_visits (AfterMerge source target)
      n side l ≡ one_on_side n side l
  weight_other n off away side l = grind (arith, common_steps)

  weight_source : (side : Side) (l : Link) → link_visits (AfterMerge source target) source side l ≡ 0
  weight_source side l = grind (arith, common_steps)

  -- After a merge, a link still lies on the side of a hierarchical relation at no more than one node.
  merged_one : (n : ℕ) (side : Side) (l : Link) (p : ℕ) → ((m : ℕ) → one_on_side m side l ≤ one_at p m)
      → link_visits (AfterMerge source target) n side l ≤ one_at (node_after (AfterMerge source target) p) n
  merged_one n side l p at =
      grind (arith, common_steps, cases_eq, one_at, other_one, target_one, weight_other, weight_source, weight_target)

  -- After a merge, reading two sides of a node takes at most one visit for each end that a link has there.
  merged_two : (n : ℕ) (j k : Side) (l : Link) → side_no j ≢ side_no k → link_visits (AfterMerge source target) n j l
      + link_visits (AfterMerge source target) n k l ≤ ends_at_node (AfterMerge source target) n l
  merged_two n j k l differ = elim (cases_eq n source) [
    | inl at ↦ subst IsWithin (sym at) (omega (arith, weight_source j l, weight_source k l))
    | inr off ↦ elim (cases_eq n target) [
      | inl at ↦ subst IsWithin (sym at) (at_target (λ e. off (at ∙ e)))
      | inr away ↦ omega (
        arith,
        weight_other n off away j l,
        weight_other n off away k l,
        on_two n j k l differ,
        end_one n l,
        other_one n l.a off,
        other_one n l.b off,
      )
    ]
  ]
    where
      IsWithin : ℕ → Type 0
      IsWithin m = link_visits (AfterMerge source target) m j l + link_visits (AfterMerge source target) m k l
          ≤ ends_at_node (AfterMerge source target) m l

      at_target : target ≢ source → IsWithin target
      at_target off =
          omega (
            arith,
            weight_target off j l,
            weight_target off k l,
            on_two target j k l differ,
            on_two source j k l differ,
            end_one target l,
            end_one source l,
            target_one (λ e. off (sym e)) l.a,
            target_one (λ e. off (sym e)) l.b,
          )

module _ (edit : LinkEdit) (j k : Side) (differ : side_no j ≢ side_no k) where
  weight_two : (n : ℕ) (l : Link) → link_visits edit n j l + link_visits edit n k l ≤ ends_at_node edit n l
  weight_two n l = grind (arith, common_steps, end_one, merged_two, on_two, one_at)

  -- Reading two sides of distinct nodes takes at most two visits for each link.
  pub spent_two : (nodes : List ℕ) → IsDistinct nat_eq nodes → (ns : List Link) → read_cost edit j nodes ns
      + read_cost edit k nodes ns ≤ 2 * length ns
  spent_two nodes distinct ns =
      let each : read_cost edit j nodes ns + read_cost edit k nodes ns ≤ sum_by (λ n. sum_by (ends_at_node edit n) ns)
      nodes =
      sum_by-two (λ n. sum_by (link_visits edit n j) ns) (λ n. sum_by (link_visits edit n k) ns)
      (λ n. sum_by (ends_at_node edit n) ns)
      (λ n. sum_by-two (link_visits edit n j) (link_visits edit n k) (ends_at_node edit n) (weight_two n) ns) nodes in
      omega (arith, each, met_twice edit nodes distinct ns)

module _ (edit : LinkEdit) (relation : Relation) (walked : IsHierarchy relation) where
  weight_one : (l : Link) → (p : ℕ) × ((n : ℕ) → link_visits edit n (side_in relation) l ≤ one_at p n)
  weight_one l = go edit (on_foot relation walked l)
    where
      go : (edit : LinkEdit) → ((p : ℕ) × ((n : ℕ) → one_on_side n (side_in relation) l ≤ one_at p n)) → (p : ℕ)
          × ((n : ℕ) → link_visits edit n (side_in relation) l ≤ one_at p n)
      go NoEdit (p, at) = (p, at)
      go (WithLink new) (p, at) = (p, at)
      go (AfterMerge source target) (p, at) =
          (node_after (AfterMerge source target) p, λ n. merged_one source target n (side_in relation) l p at)

  -- Reading one side, up or down, of distinct nodes takes at most one visit for each link.
  pub spent_one : (nodes : List ℕ) → IsDistinct nat_eq nodes → (ns : List Link) → read_cost edit (side_in relation)
      nodes ns ≤ length ns
  spent_one nodes distinct ns = omega (arith, met_at_most nodes (λ n. link_visits edit n (side_in relation)) 1 each ns)
    where
      each : (l : Link) → sum_by (λ n. link_visits edit n (side_in relation) l) nodes ≤ 1
      each l =
          let w = weight_one l in
          omega (
            arith,
            sum_by-le-sum_by (λ n. link_visits edit n (side_in relation) l) (one_at w.0) nodes w.1,
            sum_by-one_at w.0 nodes distinct,
          )
