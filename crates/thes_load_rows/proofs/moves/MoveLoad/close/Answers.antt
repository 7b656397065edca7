use Rattle.std.proofs.Common.{◌≡◌, subst, sym, List, ℕ, rules}
use Rattle.thes_load_rows.specs.RowsSoFar.{HasStoredPlaces}
use Rattle.thes_load_rows.proofs.MoveLoadLemmas.{rule_of, are_of}
use Rattle.thes_load_rows.proofs.moves.MoveLoad.close.Goals as goal

pub returns : goal.returns
returns c = λ rs ps rows has are.
    let same : c.as_slice.result.now ≡ c.args.self.now.places.items = search rules in (
      λ t. rule_of rs ps c.args.self.now.taken c.args.self.now.places.items rows has c.args.stored_places.now are
          (subst (λ (l : List ℕ). HasStoredPlaces l c.args.stored_places.now) same (c.has_stored_places.ensures.0 t)),
      λ rule. c.has_stored_places.ensures.1 (subst (λ (l : List ℕ). HasStoredPlaces l c.args.stored_places.now)
          (sym same)
          (are_of rs ps c.args.self.now.taken c.args.self.now.places.items rows has c.args.stored_places.now are
          rule)),
    )
