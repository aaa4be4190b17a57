use Rattle.pc_batch.proofs.BatchLaws.{read-found, read-only, read-value, read-sound, read-fault}
use Rattle.pc_batch.proofs.batch.read_batch.Goals as goal

pub returns-clause-found : goal.returns-clause-found
returns-clause-found c = read-found c.args.bytes.now _ c.args.at c.batch_of.result c.from_place.ensures c.batch_of.ensures.value

pub returns-clause-only : goal.returns-clause-only
returns-clause-only c = read-only c.args.bytes.now _ c.args.at c.batch_of.result c.from_place.ensures c.batch_of.ensures.value c.batch_of.ensures.fault

pub returns-clause-sound : goal.returns-clause-sound
returns-clause-sound c = read-sound c.args.bytes.now _ c.args.at c.batch_of.result c.from_place.ensures c.batch_of.ensures.value

pub returns-clause-fault : goal.returns-clause-fault
returns-clause-fault c = read-fault c.args.bytes.now _ c.args.at c.batch_of.result c.from_place.ensures c.batch_of.ensures.fault

pub returns-clause-value : goal.returns-clause-value
returns-clause-value c = read-value c.args.bytes.now _ c.args.at c.batch_of.result c.from_place.ensures c.batch_of.ensures.value
