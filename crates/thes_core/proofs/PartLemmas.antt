-- A legal state without its postings is legal.
use Rattle.std.proofs.Common.{◌≡◌, ℕ, zero, suc, List, []}
use Rattle.std.specs.Prelude.{Some}
use Rattle.thes_base.specs.declared.data.History.{History}
use Rattle.thes_base.specs.Resources.{entry_at}
use Rattle.thes_base.specs.Legal.{IsLegalState}
use Rattle.thes_base.specs.State.{State}
use Rattle.thes_base.proofs.MachineLemmas.{legal_empty}
use Rattle.thes_base.proofs.SoundStateLemmas.{legal_of_sound, forms_of_legal}
use Rattle.thes_core.specs.CoreView.{without_postings}

none_numbered : (n : ℕ) (h : History) → entry_at [] n ≡ Some h → ⊥
none_numbered zero h at = cc
none_numbered (suc n) h at = cc

pub legal_without : (base : List ℕ) (s : State) → IsLegalState base s → IsLegalState base (without_postings s)
legal_without base s legal =
    let forms = forms_of_legal base s legal in
    let none = (legal_empty base forms.base_form).postings in
    legal_of_sound base (without_postings s)
    (record {
      resources = legal.resources;
      labels = legal.labels;
      links = legal.links;
      postings = record {
        few = none.few;
        few_moves = none.few_moves;
        sound = λ n h at. absurd (none_numbered n h at);
        keys = none.keys;
        numbers = none.numbers;
      };
    })
    (record {
      base_form = forms.base_form;
      iris = forms.iris;
      labels = forms.labels;
      postings = λ n h at. absurd (none_numbered n h at);
    })
