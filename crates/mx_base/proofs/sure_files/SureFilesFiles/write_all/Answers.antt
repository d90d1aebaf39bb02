use Rattle.std.proofs.Common.{rules}
use Rattle.mx_base.specs.contracts.sure_files.SureFiles.{the_view}
use Rattle.mx_base.proofs.SureLemmas.{sure-written, sure-written_other}
use Rattle.mx_base.proofs.sure_files.SureFilesFiles.write_all.Goals as goal

pub returns-else-not-write-clause-written : goal.returns-else-not-write-clause-written
returns-else-not-write-clause-written c = sure-written c.args.self.now (the_view record { shelf = c.write.new.self; dropped = c.self.inside.dropped }) c.args.name.now c.args.bytes.now (search rules)

pub returns-else-not-write-clause-others : goal.returns-else-not-write-clause-others
returns-else-not-write-clause-others c = sure-written_other c.args.self.now (the_view record { shelf = c.write.new.self; dropped = c.self.inside.dropped }) c.args.name.now c.args.bytes.now (search rules)
