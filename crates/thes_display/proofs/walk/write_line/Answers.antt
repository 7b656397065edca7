use Rattle.std.proofs.Common.{◌≡◌, ◌<◌, ◌++◌, ℕ, List, length, get_or, append_assoc, arith}
use Rattle.std.proofs.lemmas.Option.{slice_get_read}
use Rattle.thes_display.specs.Order.{Term}
use Rattle.thes_display.specs.Lines.{text_at}
use Rattle.thes_display.proofs.walk.write_line.Goals as goal

text_read : (terms : List Term) (rank : ℕ) (t : Term) → rank < length terms → t ≡ get_or terms rank t → t.text
    ≡ text_at terms rank
text_read terms rank t k e = grind (arith, slice_get_read)

four : (old spaces text types end one two three new : List ℕ) → one ≡ old ++ spaces → two ≡ one ++ text → three ≡ two
    ++ types → new ≡ three ++ end → new ≡ old ++ (spaces ++ (text ++ (types ++ end)))
four old spaces text types end one two three new e f g h = grind (arith, append_assoc)

pub returns : goal.returns
returns c = grind (arith, four, text_read)
