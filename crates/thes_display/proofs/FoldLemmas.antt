-- Proves that the sort key of an ASCII text is the text in lower case.
use Rattle.std.proofs.Common.{◌≡◌, ◌∙◌, ap, ℕ, List, map, chars, encode_utf8_all, IsAscii, arith}
use Rattle.std.specs.Char.{to_ascii_lowercase}
use Rattle.std.proofs.lemmas.Str.{chars-IsAscii, encodes-IsAscii}
use Rattle.std.proofs.lemmas.Str.Ascii.{IsAscii-map}
use Rattle.caseless.proofs.CaselessLemmas.{default_case_fold-ascii, All-chars}
use Rattle.thes_display.specs.Order.{fold_bytes}

pub fold_of_ascii : (text : List ℕ) → IsAscii text → fold_bytes text ≡ map to_ascii_lowercase text
unfolding fold_bytes
fold_of_ascii text ascii =
    ap encode_utf8_all (default_case_fold-ascii (chars text) (All-chars text ascii)
    ∙ ap (map to_ascii_lowercase) (chars-IsAscii text ascii))
    ∙ encodes-IsAscii _ (IsAscii-map to_ascii_lowercase text (λ b low. grind arith) ascii)
