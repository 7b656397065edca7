use Rattle.std.proofs.lemmas.List.Elements.{Contains-get_or}
use Rattle.thes_display.proofs.entry.write_places.Goals as goal

pub text_of-requires : goal.text_of-requires
text_of-requires c = c.requires _ (Contains-get_or c.args.places.now c.loop-place.place-index 0 c.loop-place-test.true)
