use Rattle.csv_instance.proofs.fault.OffsetsFault.append_to.Goals as goal

pub returns-in-NoHeader : goal.returns-in-NoHeader
returns-in-NoHeader c = record { appended = rw c.in-NoHeader.is c.append.ensures }

pub returns-in-DuplicateColumn : goal.returns-in-DuplicateColumn
returns-in-DuplicateColumn c = record { appended = rw c.in-DuplicateColumn.is c.append_column.ensures }

pub returns-in-MissingColumn : goal.returns-in-MissingColumn
returns-in-MissingColumn c = record { appended = rw c.in-MissingColumn.is c.append_column-in-MissingColumn.ensures }

pub returns-in-FieldCount : goal.returns-in-FieldCount
returns-in-FieldCount c = record { appended = rw c.in-FieldCount.is c.append_row.ensures }

pub returns-in-UnknownId : goal.returns-in-UnknownId
returns-in-UnknownId c = record { appended = rw c.in-UnknownId.is c.append_row-in-UnknownId.ensures }

pub returns-in-DuplicateId : goal.returns-in-DuplicateId
returns-in-DuplicateId c = record { appended = rw c.in-DuplicateId.is c.append_duplicate.ensures }

pub returns-in-BadNumber : goal.returns-in-BadNumber
returns-in-BadNumber c = record { appended = rw c.in-BadNumber.is c.append_row-in-BadNumber.ensures }

pub returns-in-MissingId : goal.returns-in-MissingId
returns-in-MissingId c = record { appended = rw c.in-MissingId.is c.append_missing.ensures }
