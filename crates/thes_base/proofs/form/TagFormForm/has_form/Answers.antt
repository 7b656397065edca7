use Rattle.thes_base.proofs.TagLemmas.{kept_tag}
use Rattle.thes_base.proofs.form.TagFormForm.has_form.Goals as goal

pub returns-clause-stays : goal.returns-clause-stays
returns-clause-stays c is_tag = kept_tag c.args.text.now (c.is_tag.ensures.0 is_tag)
