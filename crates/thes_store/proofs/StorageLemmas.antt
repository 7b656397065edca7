-- Proves that calls that change nothing, followed by a query, together have the effect of a query.
use Rattle.std.proofs.Common.{arith}
use Rattle.std.proofs.lemmas.Grind.{common_steps}
use Rattle.std.specs.Prelude.{Result, Ok}
use Rattle.thes_base.specs.declared.fault.Fault.{Fault}
use Rattle.thes_store.specs.Storage.{KeepsStorage, QueryFrame, StorageView}

module _ {T : Type 0} (old mid new : StorageView) (keeps : KeepsStorage old mid) where
  pub query_after : (result : Result T Fault) → QueryFrame mid new result → QueryFrame old new result
  query_after result asks = grind (arith, common_steps)

  pub kept_after : (x : T) → QueryFrame mid new (Ok x) → KeepsStorage old new
  kept_after x asks = let all = query_after (Ok x) asks in
      record { same = all.same; was = all.was; count = all.cause }
