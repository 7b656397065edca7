-- The names that requests and views use for the kinds of links.
use Rattle.std.specs.Prelude.{codes}
use Rattle.thes_base.specs.Types.{Bytes}
use Rattle.thes_base.specs.declared.data.LinkKind.{LinkKind}
use Rattle.thes_base.specs.declared.data.LinkKind.TheVariants as link
use Rattle.thes_base.specs.declared.data.TypedKind.{TypedKind}
use Rattle.thes_base.specs.declared.data.TypedKind.TheVariants as typed

-- The name of a kind of link in requests and views.
abbrev pub link_kind_name : LinkKind → Bytes
link_kind_name link.Broader = codes "broader"
link_kind_name link.Related = codes "related"
link_kind_name link.Exact = codes "exact"
link_kind_name link.Close = codes "close"
link_kind_name link.Broad = codes "broad"
link_kind_name link.Narrow = codes "narrow"
link_kind_name link.RelMatch = codes "relMatch"
link_kind_name link.Member = codes "member"
link_kind_name link.BroaderGeneric = codes "broaderGeneric"
link_kind_name link.BroaderPartitive = codes "broaderPartitive"
link_kind_name link.BroaderInstantial = codes "broaderInstantial"

-- The name of a typed hierarchical link in views, seen from one end.
abbrev pub typed_kind_name : TypedKind → Bytes
typed_kind_name typed.BroaderGeneric = codes "broaderGeneric"
typed_kind_name typed.BroaderInstantial = codes "broaderInstantial"
typed_kind_name typed.BroaderPartitive = codes "broaderPartitive"
typed_kind_name typed.NarrowerGeneric = codes "narrowerGeneric"
typed_kind_name typed.NarrowerInstantial = codes "narrowerInstantial"
typed_kind_name typed.NarrowerPartitive = codes "narrowerPartitive"
