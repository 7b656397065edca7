use Rattle.std.proofs.Common.{rules, ◌≡◌, sym, subst, false}
use Rattle.std.specs.Prelude.{is_some}
use Rattle.std.specs.List.{list_any}
use Rattle.serde_json.specs.Data.{Data, array}
use Rattle.thes_requests.specs.References.{member_without_references, reference_in}
use Rattle.thes_requests.specs.Tree.{view, items_view}
use Rattle.thes_requests.specs.declared.tree.Value.{the_lemmas}
use Rattle.thes_requests.proofs.UnchangedLemmas.{array_unchanged}
use Rattle.thes_requests.proofs.references.has_reference.Goals as goal

-- An array without references is unchanged.
pub returns-in-Array : goal.returns-in-Array
returns-in-Array c = λ none name.
    let same : view c.args.value.now ≡ array (items_view c.in-Array.items.items) = search (rules, the_lemmas) in
    let found : list_any (λ v. is_some (reference_in (view v))) c.in-Array.items.items ≡ false = search rules in
    subst (λ (d : Data). member_without_references name d ≡ d) (sym same)
    (array_unchanged c.in-Array.items.items found name)
