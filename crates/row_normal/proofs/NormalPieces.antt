-- The pieces of rows in normal form.
use Rattle.std.proofs.Common.{ap}
use Rattle.con_terms.specs.Trees.{Cn, record_of}
use Rattle.row_normal.specs.Laws.{FieldsAreInOrder, PiecesAreInOrder}
use Rattle.row_normal.proofs.NormalStays.{normal_in_order}
use Rattle.row_normal.proofs.PiecesWritten.{written_in_order}

pub pieces_are_in_order : PiecesAreInOrder
pieces_are_in_order n h = written_in_order n (normal_in_order n h)

abbrev inside : Cn → Cn
inside (record_of r) = r
inside c = c

pub fields_are_in_order : FieldsAreInOrder
fields_are_in_order r h = written_in_order r (ap inside (normal_in_order (record_of r) h))
