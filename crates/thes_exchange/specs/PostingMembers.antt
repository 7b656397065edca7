-- The JSON members of a posting's view, put in one by one, for contracts of private functions.
use Rattle.std.specs.Prelude.{codes}
use Rattle.serde_json.specs.Data.{Members, boolean, string, put}
use Rattle.thes_base.specs.declared.data.History.{History}
use Rattle.thes_base.specs.Postings.{place}
use Rattle.thes_exchange.specs.ViewTexts.{number_data, array_data, move_data}

-- The members, with the facts about the posting added.
unfoldable pub members_with_posting : History → Members → Members
members_with_posting h ms =
    put (codes "withdrawn") (boolean h.withdrawn)
    (put (codes "record") (string h.rec)
    (put (codes "place") (number_data (place h))
    (put (codes "number") (number_data h.number)
    (put (codes "moves") (array_data move_data h.moves)
    (put (codes "key") (string h.key)
    (put (codes "first") (number_data h.first) ms))))))
