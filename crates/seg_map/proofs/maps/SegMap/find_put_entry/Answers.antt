-- The search for the key is the one of the tree.
use Rattle.seg_map.proofs.{arith, ended, entry_is, few_searched}
use Rattle.seg_map.proofs.maps.SegMap.find_put_entry.Goals as goal

pub find_entry-way-requires : goal.find_entry-way-requires
find_entry-way-requires g c =
    let s = c.requires.map in
    record {
      root = c.open-pairs.ensures.link_target;
      tree = ended c.open-pairs.ensures.opening c.args.key c.args.last c.requires.last s.0 s.1;
    }

pub returns : goal.returns
returns g c =
    let way = c.find_entry-way.ensures in let o = c.open-pairs.ensures.opening in
    record {
      root = c.open-pairs.ensures.root;
      entry = entry_is o c.args.key way.entry;
      steps_lower = omega (arith, c.add.ensures);
      steps = λ ps s. omega (arith, c.add.ensures, few_searched o way.steps ps s);
    }
