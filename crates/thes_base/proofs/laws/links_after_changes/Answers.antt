use Rattle.thes_base.proofs.LinkSetLemmas.{contracted_from, contracted_to, without_node_from, without_node_to}
use Rattle.thes_base.proofs.laws.links_after_changes.Goals as goal

pub returns : goal.returns
returns c = record {
  merge = λ is_outside source target links m. (
    contracted_from is_outside source target links m,
    contracted_to is_outside source target links m,
  );
  deprecation = λ n links m. (without_node_from n links m, without_node_to n links m);
}
