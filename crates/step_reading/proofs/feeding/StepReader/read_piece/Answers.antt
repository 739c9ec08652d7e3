use Rattle.step_reading.proofs.feeding.StepReader.read_piece.Goals as goal

pub read_piece-read-requires-clause-reader : goal.read_piece-read-requires-clause-reader
read_piece-read-requires-clause-reader c = record { task = c.requires.task; index = c.in_ok-tables.ensures.0; names = c.in_ok-tables.ensures.1 }

pub read_piece-read-requires-clause-lines : goal.read_piece-read-requires-clause-lines
read_piece-read-requires-clause-lines c = c.requires.lines

pub returns-clause-read : goal.returns-clause-read
returns-clause-read c = c.read_piece-read.ensures.read

pub returns-clause-fault : goal.returns-clause-fault
returns-clause-fault c = c.read_piece-read.ensures.fault
