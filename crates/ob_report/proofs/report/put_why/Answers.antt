use Rattle.ob_report.proofs.report.put_why.Goals as goal

pub returns-in-Conflict : goal.returns-in-Conflict
returns-in-Conflict g c = rw c.in-Conflict.is c.put_conflict.ensures

pub returns-in-Depends : goal.returns-in-Depends
returns-in-Depends g c = rw c.in-Depends.is c.put_number.ensures

pub returns-in-ReadsFull : goal.returns-in-ReadsFull
returns-in-ReadsFull g c = rw c.in-ReadsFull.is c.put_reads_full.ensures

pub returns-in-WritesFull : goal.returns-in-WritesFull
returns-in-WritesFull g c = rw c.in-WritesFull.is c.put_number-in-WritesFull.ensures

pub returns-in-ShareReads : goal.returns-in-ShareReads
returns-in-ShareReads g c = rw c.in-ShareReads.is c.put_number-in-ShareReads.ensures

pub returns-in-ShareWrites : goal.returns-in-ShareWrites
returns-in-ShareWrites g c = rw c.in-ShareWrites.is c.put_number-in-ShareWrites.ensures

pub returns-in-EpochEnd : goal.returns-in-EpochEnd
returns-in-EpochEnd g c = rw c.in-EpochEnd.is c.put_bytes.ensures

pub returns-in-Asked : goal.returns-in-Asked
returns-in-Asked g c = rw c.in-Asked.is c.put_bytes-in-Asked.ensures

pub returns-in-Stopped : goal.returns-in-Stopped
returns-in-Stopped g c = rw c.in-Stopped.is c.put_bytes-in-Stopped.ensures
