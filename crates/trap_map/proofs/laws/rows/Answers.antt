use Rattle.trap_map.proofs.TableLemmas.{table_at_block, table_row_is_zero, table_from_others}
use Rattle.trap_map.proofs.laws.rows.Goals as goal

pub returns-clause-block : goal.returns-clause-block
returns-clause-block c = λ g image block. table_at_block g image block

pub returns-clause-zero : goal.returns-clause-zero
returns-clause-zero c = λ g image row is_image below. table_row_is_zero g image is_image row below

pub returns-clause-one : goal.returns-clause-one
returns-clause-one c = λ g image row member is_image below inside. table_from_others g image is_image row member below inside
