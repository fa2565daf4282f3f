-- A node as the code holds it is one of the paper's. No promise of an entry rests on this; contracts cite it.
use Rattle.meaning.specs.Table as Table
use Rattle.rule.specs.Operator.{code}
use Rattle.reading.specs.declared.parts.Node.{Node}

abbrev pub node_is : Node → Table.Node
node_is x = record { operator = code x.operator; first = x.first; second = x.second }
