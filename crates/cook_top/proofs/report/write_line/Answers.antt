use Rattle.cook_top.specs.Texts.{line_of}
use Rattle.cook_top.proofs.report.write_line.Goals as goal

pub returns-in-Usage-clause-err : goal.returns-in-Usage-clause-err
unfolding line_of
returns-in-Usage-clause-err g c = rw c.in-Usage.is c.write.ensures.err

pub returns-in-ShelfFault-clause-ok : goal.returns-in-ShelfFault-clause-ok
unfolding line_of
returns-in-ShelfFault-clause-ok g c = rw c.in-ShelfFault.is c.write-in-ShelfFault.ensures.ok

pub returns-in-ShelfFault-clause-err : goal.returns-in-ShelfFault-clause-err
unfolding line_of
returns-in-ShelfFault-clause-err g c = rw c.in-ShelfFault.is c.write-in-ShelfFault.ensures.err

pub returns-in-NoMemory-clause-ok : goal.returns-in-NoMemory-clause-ok
unfolding line_of
returns-in-NoMemory-clause-ok g c = rw c.in-NoMemory.is c.write-in-NoMemory.ensures.ok

pub returns-in-NoMemory-clause-err : goal.returns-in-NoMemory-clause-err
unfolding line_of
returns-in-NoMemory-clause-err g c = rw c.in-NoMemory.is c.write-in-NoMemory.ensures.err
