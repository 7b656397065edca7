use Rattle.std.proofs.lemmas.Str.{IsCharBoundary-at_seam}
use Rattle.std.specs.String.{string_bytes}
use Rattle.thes_store.proofs.packed_label.PackedLabel.pack.Goals as goal

pub invariant_of-result : goal.invariant_of-result
invariant_of-result c = IsCharBoundary-at_seam (string_bytes c.in_ok-bytes.bytes) c.as_str-tag.result.now
    c.text-text.result.now c.in_ok-bytes.ensures c.text-text.utf8
