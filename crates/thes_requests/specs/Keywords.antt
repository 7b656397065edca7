-- The keywords of requests and views: commands, queries, label kinds and link kinds.
use Rattle.std.specs.Prelude.{ℕ, List, [], ◌∷◌, codes, find, Option}
use Rattle.std.specs.Str.{bytes_eq}
use Rattle.thes_base.specs.declared.data.LabelKind.{LabelKind}
use Rattle.thes_base.specs.declared.data.LabelKind.TheVariants as labels
use Rattle.thes_base.specs.declared.data.LinkKind.{LinkKind}
use Rattle.thes_base.specs.declared.data.LinkKind.TheVariants as links
use Rattle.thes_base.specs.KindNames.{link_kind_name}
use Rattle.thes_requests.specs.declared.keywords.CommandKeyword.{CommandKeyword}
use Rattle.thes_requests.specs.declared.keywords.CommandKeyword.TheVariants as does
use Rattle.thes_requests.specs.declared.keywords.QueryKeyword.{QueryKeyword}
use Rattle.thes_requests.specs.declared.keywords.QueryKeyword.TheVariants as gets

-- The first element of `all` whose keyword is `text`.
abbrev pub find_by_keyword : {A : Type 0} → (A → List ℕ) → List A → List ℕ → Option A
find_by_keyword word all text = find (λ x. bytes_eq text (word x)) all

-- The keyword of a label kind, the value of `kind`.
abbrev pub label_keyword : LabelKind → List ℕ
label_keyword labels.Pref = codes "pref"
label_keyword labels.Alt = codes "alt"
label_keyword labels.Hidden = codes "hidden"
label_keyword labels.Scope = codes "scope"

-- The label kind with this keyword, if there is one.
abbrev pub label_kind_named : List ℕ → Option LabelKind
label_kind_named text =
    find_by_keyword label_keyword (labels.Pref ∷ labels.Alt ∷ labels.Hidden ∷ labels.Scope ∷ []) text

-- The link kind with this keyword, if there is one.
abbrev pub link_kind_named : List ℕ → Option LinkKind
link_kind_named text =
    find_by_keyword link_kind_name
    (links.Broader ∷ links.Related ∷ links.Exact ∷ links.Close ∷ links.Broad ∷ links.Narrow
    ∷ links.RelMatch ∷ links.Member ∷ links.BroaderGeneric ∷ links.BroaderPartitive ∷ links.BroaderInstantial ∷ []) text

-- The keyword of a command, the value of `do`.
abbrev pub verb_keyword : CommandKeyword → List ℕ
verb_keyword does.Scheme = codes "scheme"
verb_keyword does.Concept = codes "concept"
verb_keyword does.Collection = codes "collection"
verb_keyword does.Outside = codes "outside"
verb_keyword does.AddLabel = codes "addLabel"
verb_keyword does.DropLabel = codes "dropLabel"
verb_keyword does.Relabel = codes "relabel"
verb_keyword does.Link = codes "link"
verb_keyword does.Unlink = codes "unlink"
verb_keyword does.Deprecate = codes "deprecate"
verb_keyword does.Merge = codes "merge"
verb_keyword does.Split = codes "split"
verb_keyword does.Post = codes "post"
verb_keyword does.Withdraw = codes "withdraw"

-- The command with this keyword, if there is one.
abbrev pub verb_named : List ℕ → Option CommandKeyword
verb_named text =
    find_by_keyword verb_keyword
    (does.Scheme ∷ does.Concept ∷ does.Collection ∷ does.Outside ∷ does.AddLabel ∷ does.DropLabel
    ∷ does.Relabel ∷ does.Link ∷ does.Unlink ∷ does.Deprecate ∷ does.Merge ∷ does.Split ∷ does.Post ∷ does.Withdraw
    ∷ []) text

-- The keyword of a query, the value of `get`.
abbrev pub noun_keyword : QueryKeyword → List ℕ
noun_keyword gets.Totals = codes "totals"
noun_keyword gets.Concept = codes "concept"
noun_keyword gets.Postings = codes "postings"
noun_keyword gets.Posting = codes "posting"

-- The query with this keyword, if there is one.
abbrev pub noun_named : List ℕ → Option QueryKeyword
noun_named text =
    find_by_keyword noun_keyword (gets.Totals ∷ gets.Concept ∷ gets.Postings ∷ gets.Posting ∷ []) text
