-- The JSON members of a concept's view, put in group by group, for contracts of private functions.
use Rattle.std.specs.Prelude.{codes}
use Rattle.serde_json.specs.Data.{Members, boolean, put}
use Rattle.thes_base.specs.Views.{ConceptDetails}
use Rattle.thes_exchange.specs.ViewTexts.{number_data, number_or_null, array_data, tagged_data, mapping_data}
use Rattle.thes_exchange.specs.ViewTexts.{typed_data}

-- The members, with the labels of the concept added.
unfoldable pub members_with_labels : ConceptDetails → Members → Members
members_with_labels c ms =
    put (codes "scope") (array_data tagged_data c.scope)
    (put (codes "pref") (array_data tagged_data c.pref)
    (put (codes "hidden") (array_data tagged_data c.hidden)
    (put (codes "alt") (array_data tagged_data c.alt) ms)))

-- The members, with the links of the concept added.
unfoldable pub members_with_links : ConceptDetails → Members → Members
members_with_links c ms =
    put (codes "typed") (array_data typed_data c.typed)
    (put (codes "related") (array_data number_data c.related)
    (put (codes "narrower") (array_data number_data c.narrower)
    (put (codes "mappings") (array_data mapping_data c.mappings)
    (put (codes "collections") (array_data number_data c.collections)
    (put (codes "broader") (array_data number_data c.broader) ms)))))

-- The members, with `live`, `number`, `postings`, `replaced`, `scheme` and `top` of the concept
-- added.
unfoldable pub members_with_facts : ConceptDetails → Members → Members
members_with_facts c ms =
    put (codes "top") (boolean c.top)
    (put (codes "scheme") (number_or_null c.scheme)
    (put (codes "replaced") (number_or_null c.replaced)
    (put (codes "postings") (number_data c.postings)
    (put (codes "number") (number_data c.number)
    (put (codes "live") (boolean c.live) ms)))))
