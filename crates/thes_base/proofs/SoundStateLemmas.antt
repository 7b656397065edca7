-- A sound state is legal, except that its texts may lack their forms. The machine is also defined for requests whose
-- texts lack theirs.
use Rattle.std.proofs.Common.{List, ℕ}
use Rattle.thes_base.specs.State.{State}
use Rattle.thes_base.specs.Legal.{IsLegalState, AreLegalResources, AreLegalLabels, AreLegalLinks, AreLegalPostings}
use Rattle.thes_base.specs.Texts.{StateHasForms, HasLegalTexts}

pub record IsSound (base : List ℕ) (s : State) : Type 0 where
  pub resources : AreLegalResources base s.resources s.iris
  pub labels : AreLegalLabels s.resources s.labels
  pub links : AreLegalLinks s.resources s.links
  pub postings : AreLegalPostings s.resources s.histories

pub sound_of_legal : (base : List ℕ) (s : State) → IsLegalState base s → IsSound base s
sound_of_legal base s legal = record {
  resources = legal.resources;
  labels = legal.labels;
  links = legal.links;
  postings = legal.postings;
}

pub legal_of_sound : (base : List ℕ) (s : State) → IsSound base s → StateHasForms base s → IsLegalState base s
unfolding HasLegalTexts
legal_of_sound base s sound texts = record {
  resources = sound.resources;
  labels = sound.labels;
  links = sound.links;
  postings = sound.postings;
  texts = texts;
}

pub forms_of_legal : (base : List ℕ) (s : State) → IsLegalState base s → StateHasForms base s
unfolding HasLegalTexts
forms_of_legal base s legal = legal.texts
