-- Laws of the definition of a head.
use Rattle.std.specs.Prelude.{ℕ, ◌≡◌, ◌++◌, List}
use Rattle.httparse.specs.Grammar.{RequestHead}
use Rattle.thes_http_request.specs.Heads.{HasHead, IsCutHead, IsBadHead}

-- No bytes are both an incomplete head and a bad head.
abbrev pub CutIsNotBad : Type 0
CutIsNotBad = (bytes : List ℕ) → IsCutHead bytes → IsBadHead bytes → ⊥

-- Bytes that begin with a head within the limits aren't an incomplete head, and no prefix of them is a bad head.
pub record HeadIsWhole : Type 0 where
  pub not_cut : (bytes rest : List ℕ) (h : RequestHead) → HasHead bytes h rest → IsCutHead bytes → ⊥
  pub not_bad : (bytes more rest : List ℕ) (h : RequestHead) → HasHead (bytes ++ more) h rest → IsBadHead bytes → ⊥

-- Bytes begin with at most one head, and only one rest follows it.
abbrev pub OneHead : Type 0
OneHead =
    (bytes r q : List ℕ) (h k : RequestHead) → HasHead bytes h r → HasHead bytes k q → (h ≡ k) × (r ≡ q)
