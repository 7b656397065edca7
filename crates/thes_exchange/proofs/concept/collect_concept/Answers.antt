use Rattle.std.proofs.Common.{refl, rules}
use Rattle.thes_exchange.proofs.ConceptLemmas.{view_of_held_state}
use Rattle.thes_exchange.proofs.concept.collect_concept.Goals as goal

pub returns : goal.returns
returns c s holds = view_of_held_state c.args.core.now s c.args.number _ holds record {
  resource = c.args.resource.now;
  found = c.requires.found;
  number = refl;
  scheme = search rules;
  live = search rules;
  replaced = search rules;
  pref = search rules;
  alt = search rules;
  hidden = search rules;
  scope = search rules;
  broader = search rules;
  narrower = search rules;
  related = search rules;
  collections = search rules;
  mappings = search rules;
  postings = search (rules, holds.posting_counts.standing c.args.number);
  top = search rules;
  typed = search rules;
}
