-- The parts of a case as the code holds them are the paper's. No promise of an entry rests on this; contracts cite it.
use Rattle.reading.specs.Parts as Paper
use Rattle.reading.specs.declared.parts.Parts.{Parts}

abbrev pub parts_are : Parts → Paper.Parts
parts_are p =
    record {
      states = p.states;
      atoms = p.atoms;
      state_list = p.state_list.now;
      edge_list = p.edge_list.now;
      node_list = p.node_list.now;
    }
