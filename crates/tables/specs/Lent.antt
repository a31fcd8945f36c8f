-- Which table do lent columns hold?
use Rattle.definitions.specs.Table.{Table, table}
use Rattle.tables.specs.declared.Table.{Table as Lent}

abbrev pub table_of : Lent → Table
table_of t = table t.kinds.now t.firsts.now t.counts.now t.bounds.now t.weights.now t.literals.now
