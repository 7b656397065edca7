-- If histories are legal, each posting that isn't withdrawn is assigned to the live concept to which its moves lead.
use Rattle.std.proofs.Common.{◌≡◌, ℕ, suc, List, [], ◌∷◌, refl, true, false}
use Rattle.std.specs.Prelude.{Some, slice_get}
use Rattle.thes_base.specs.declared.data.History.{History}
use Rattle.thes_base.specs.Resources.{is_live_concept}
use Rattle.thes_base.specs.Postings.{place}
use Rattle.thes_base.specs.State.{State}
use Rattle.thes_base.specs.Assignments.{PostingsAreAssigned}
use Rattle.thes_base.specs.Legal.{AreLegalPostings}
use Rattle.thes_base.proofs.MoveLemmas.{led_by, led_only}
use Rattle.thes_base.proofs.AssignedCountLemmas.{EachIsAssigned, counts_add_up}
use Rattle.thes_base.proofs.ResourceLemmas.{live_from_test}

pub assigned_of_legal : (s : State) → AreLegalPostings s.resources s.histories → PostingsAreAssigned s
assigned_of_legal s legal = record {
  at_one_place = λ n h e w.
      let sound = legal.sound n h e in (
        place h,
        record {
          live = live_from_test s.resources (place h) (sound.stands w);
          moves_lead = led_by 0 h.first h.moves sound.well_formed;
          no_other = λ d l. led_only h.first h.moves d l;
        },
      );
  counts = counts_add_up s.resources s.histories (each s.histories (λ i h e w. (legal.sound (suc i) h e).stands w));
}
  where
    each : (hs : List History) → ((i : ℕ) (h : History) → slice_get hs i ≡ Some h → h.withdrawn ≡ false
        → is_live_concept s.resources (place h) ≡ true) → EachIsAssigned s.resources hs
    each [] all = tt
    each (h ∷ hs) all = (all 0 h refl, each hs (λ i g e. all (suc i) g e))
