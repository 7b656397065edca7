use Rattle.std.proofs.Common.{◌≡◌, ◌≢◌, ◌==◌, ℕ, List, true, subst, rules}
use Rattle.std.specs.Prelude.{not}
use Rattle.std.proofs.lemmas.Fn.{filter_same}
use Rattle.thes_store.specs.PositionLists.{has_position}
use Rattle.thes_store.proofs.PositionListLemmas.{kept_after_removal, gone_after_removal}
use Rattle.thes_store.proofs.position_lists.RowPositions.remove.Goals as goal

pub returns-clause-keeps : goal.returns-clause-keeps
returns-clause-keeps c = subst (λ (old : List ℕ). (q : ℕ) → q ≢ c.args.position → has_position q old ≡ true
    → has_position q c.retain.new.self.items ≡ true) c.self.view_is
    (kept_after_removal c.args.position _ _
    (filter_same _ (λ q. not (q == c.args.position)) _ (λ x b f' k. search rules) _ _ c.retain.ensures.filtered))

pub returns-clause-gone : goal.returns-clause-gone
returns-clause-gone c = gone_after_removal c.args.position _ _
    (filter_same _ (λ q. not (q == c.args.position)) _ (λ x b f' k. search rules) _ _ c.retain.ensures.filtered)
