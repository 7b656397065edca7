-- A link as a mapping or as a typed hierarchical link, seen from one of its ends.
use Rattle.std.specs.Prelude.{◌==◌, ℕ, Bool, true, false, if◌then◌else◌, Option, None, Some}
use Rattle.thes_base.specs.declared.data.Link.{Link}
use Rattle.thes_base.specs.declared.data.LinkKind.{LinkKind}
use Rattle.thes_base.specs.declared.data.LinkKind.TheVariants.{Broader, Related, Exact, Close, Broad, Narrow}
use Rattle.thes_base.specs.declared.data.LinkKind.TheVariants.{RelMatch, Member, BroaderGeneric, BroaderPartitive}
use Rattle.thes_base.specs.declared.data.LinkKind.TheVariants.{BroaderInstantial}
use Rattle.thes_base.specs.declared.data.TypedKind.{TypedKind}
use Rattle.thes_base.specs.declared.data.TypedKind.TheVariants as typed

-- The kind of mapping that a link is, with the number of its other end: seen from its first end if `forward` is true,
-- or else from its second. None if the link isn't a mapping.
abbrev pub mapping_of_kind : (forward : Bool) → LinkKind → (other : ℕ) → Option (LinkKind × ℕ)
mapping_of_kind forward Exact other = Some (Exact, other)
mapping_of_kind forward Close other = Some (Close, other)
mapping_of_kind forward RelMatch other = Some (RelMatch, other)
mapping_of_kind true Broad other = Some (Broad, other)
mapping_of_kind false Broad other = Some (Narrow, other)
mapping_of_kind true Narrow other = Some (Narrow, other)
mapping_of_kind false Narrow other = Some (Broad, other)
mapping_of_kind forward _ other = None

-- The kind of mapping that a link is, seen from its end n, with the number of its other end; None if it isn't a
-- mapping.
abbrev pub mapping_seen_from : ℕ → Link → Option (LinkKind × ℕ)
mapping_seen_from n l = mapping_of_kind (l.a == n) l.kind (if l.a == n then l.b else l.a)

-- The type of a hierarchical link (ISO 25964-1, clause 10.2), with the number of its other end: seen from its first end
-- if `forward` is true, or else from its second. None for a link without such a type.
abbrev pub typed_link_of_kind : (forward : Bool) → LinkKind → (other : ℕ) → Option (TypedKind × ℕ)
typed_link_of_kind true BroaderGeneric other = Some (typed.BroaderGeneric, other)
typed_link_of_kind false BroaderGeneric other = Some (typed.NarrowerGeneric, other)
typed_link_of_kind true BroaderPartitive other = Some (typed.BroaderPartitive, other)
typed_link_of_kind false BroaderPartitive other = Some (typed.NarrowerPartitive, other)
typed_link_of_kind true BroaderInstantial other = Some (typed.BroaderInstantial, other)
typed_link_of_kind false BroaderInstantial other = Some (typed.NarrowerInstantial, other)
typed_link_of_kind forward _ other = None

-- The type of a hierarchical link, seen from its end n, with the number of its other end; None for a link without such
-- a type.
abbrev pub typed_link_seen_from : ℕ → Link → Option (TypedKind × ℕ)
typed_link_seen_from n l = typed_link_of_kind (l.a == n) l.kind (if l.a == n then l.b else l.a)

-- The rank of the kind's name in the order of the names' bytes.
abbrev pub kind_name_rank : LinkKind → ℕ
kind_name_rank Broad = 1
kind_name_rank Broader = 2
kind_name_rank BroaderGeneric = 3
kind_name_rank BroaderInstantial = 4
kind_name_rank BroaderPartitive = 5
kind_name_rank Close = 6
kind_name_rank Exact = 7
kind_name_rank Member = 8
kind_name_rank Narrow = 9
kind_name_rank RelMatch = 10
kind_name_rank Related = 11
