use Rattle.std.proofs.Common.{◌≡◌, ◌-◌, ◌^◌, length, min, take}
use Rattle.std.specs.List.{concat}
use Rattle.thes_export.proofs.gather.byte_count.Given as goal

abbrev pub invariant-loop-part : goal.invariant-loop-part
invariant-loop-part l = l.count ≡ min (length (concat (take l.part-index l.parts))) (2 ^ 64 - 1)
