use Rattle.csv_instance.proofs.fault.InstanceFault.append_to.Goals as goal

pub returns-in-NoHeader : goal.returns-in-NoHeader
returns-in-NoHeader c = record { appended = rw c.in-NoHeader.is c.append.ensures }

pub returns-in-MarkedHeader : goal.returns-in-MarkedHeader
returns-in-MarkedHeader c = record { appended = rw c.in-MarkedHeader.is c.append-in-MarkedHeader.ensures }

pub returns-in-DuplicateColumn : goal.returns-in-DuplicateColumn
returns-in-DuplicateColumn c = record { appended = rw c.in-DuplicateColumn.is c.append_column.ensures }

pub returns-in-OffsetColumn : goal.returns-in-OffsetColumn
returns-in-OffsetColumn c = record { appended = rw c.in-OffsetColumn.is c.append-in-OffsetColumn.ensures }

pub returns-in-MissingColumn : goal.returns-in-MissingColumn
returns-in-MissingColumn c = record { appended = rw c.in-MissingColumn.is c.append_column-in-MissingColumn.ensures }

pub returns-in-TooManyBuffers : goal.returns-in-TooManyBuffers
returns-in-TooManyBuffers c = record { appended = rw c.in-TooManyBuffers.is c.append-in-TooManyBuffers.ensures }

pub returns-in-FieldCount : goal.returns-in-FieldCount
returns-in-FieldCount c = record { appended = rw c.in-FieldCount.is c.append_row.ensures }

pub returns-in-EmptyId : goal.returns-in-EmptyId
returns-in-EmptyId c = record { appended = rw c.in-EmptyId.is c.append_row-in-EmptyId.ensures }

pub returns-in-IdTooLong : goal.returns-in-IdTooLong
returns-in-IdTooLong c = record { appended = rw c.in-IdTooLong.is c.append_row-in-IdTooLong.ensures }

pub returns-in-DuplicateId : goal.returns-in-DuplicateId
returns-in-DuplicateId c = record { appended = rw c.in-DuplicateId.is c.append_duplicate.ensures }

pub returns-in-BadNumber : goal.returns-in-BadNumber
returns-in-BadNumber c = record { appended = rw c.in-BadNumber.is c.append_bad_number.ensures }

pub returns-in-BadGap : goal.returns-in-BadGap
returns-in-BadGap c = record { appended = rw c.in-BadGap.is c.append_row-in-BadGap.ensures }

pub returns-in-BadBuffer : goal.returns-in-BadBuffer
returns-in-BadBuffer c = record { appended = rw c.in-BadBuffer.is c.append_bad_buffer.ensures }
