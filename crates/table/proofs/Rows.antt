-- Every row of document 01's table holds.
use Rattle.table.specs.Table.{AllHold, table}
use Rattle.table.proofs.Computing.{computed}

pub table_holds : AllHold table
table_holds = computed.rows
