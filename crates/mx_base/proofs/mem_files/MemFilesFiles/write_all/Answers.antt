use Rattle.std.proofs.Common.{rules}
use Rattle.mx_base.specs.contracts.mem_files.MemFiles.{the_view}
use Rattle.mx_base.proofs.FilesLemmas.{told-written, told-written_other, told-refused, told-refused_other}
use Rattle.mx_base.proofs.mem_files.MemFilesFiles.write_all.Goals as goal

pub returns-then-is_to_fail-clause-refused : goal.returns-then-is_to_fail-clause-refused
returns-then-is_to_fail-clause-refused c = told-refused c.args.self.now (the_view record { shelf = c.untell-is_held.new.self; others_told = c.if-self.self; calls = c.then-is_to_fail.self-inside.calls; read_faults = c.then-is_to_fail.self-inside.read_faults; write_faults = c.saturating_add-self-inside.result }) c.args.name.now (search rules)

pub returns-then-is_to_fail-clause-others : goal.returns-then-is_to_fail-clause-others
returns-then-is_to_fail-clause-others c = told-refused_other c.args.self.now (the_view record { shelf = c.untell-is_held.new.self; others_told = c.if-self.self; calls = c.then-is_to_fail.self-inside.calls; read_faults = c.then-is_to_fail.self-inside.read_faults; write_faults = c.saturating_add-self-inside.result }) c.args.name.now (search rules)

pub returns-clause-written : goal.returns-clause-written
returns-clause-written c = told-written c.args.self.now (the_view record { shelf = c.write.new.self; others_told = c.self.inside.others_told; calls = c.count-is_to_fail.new.self; read_faults = c.self.inside.read_faults; write_faults = c.self.inside.write_faults }) c.args.name.now c.args.bytes.now (search rules)

pub returns-clause-others : goal.returns-clause-others
returns-clause-others c = told-written_other c.args.self.now (the_view record { shelf = c.write.new.self; others_told = c.self.inside.others_told; calls = c.count-is_to_fail.new.self; read_faults = c.self.inside.read_faults; write_faults = c.self.inside.write_faults }) c.args.name.now c.args.bytes.now (search rules)
