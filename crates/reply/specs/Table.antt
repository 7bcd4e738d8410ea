-- The table of refusals: the number of each reason, and the layer that gives it.
use Rattle.std.specs.Prelude.{ℕ}
use Rattle.reply.specs.declared.reason.Layer.{Layer}
use Rattle.reply.specs.declared.reason.Layer.TheVariants.{Format, Switch, Batch}
use Rattle.reply.specs.declared.reason.Reason.{Reason}
use Rattle.reply.specs.declared.reason.Reason.TheVariants.{OutOfService, NoSuchInput, NoSuchOutput, InputFull, OutputFull, ListTooShort, LeftOver, NoSlotsLeft, MessageCut, UnknownMessageKind, OtherPacketKind, MessageRunsOn, CountTooLarge, MemoryTooShort, OutOfRange, DocumentCut, RowBreaksRule, SpareBitsSet, DocumentRunsOn, TooManyRows}

abbrev pub number : Reason → ℕ
number OutOfService = 1
number NoSuchInput = 2
number NoSuchOutput = 3
number InputFull = 4
number OutputFull = 5
number ListTooShort = 6
number LeftOver = 7
number NoSlotsLeft = 8
number MessageCut = 10
number UnknownMessageKind = 11
number OtherPacketKind = 12
number MessageRunsOn = 13
number CountTooLarge = 14
number MemoryTooShort = 20
number OutOfRange = 21
number DocumentCut = 22
number RowBreaksRule = 23
number SpareBitsSet = 24
number DocumentRunsOn = 25
number TooManyRows = 26

-- which layer gives a reason: the form of bytes and numbers, the switch as a whole, or a batch and its pairs
abbrev pub layer : Reason → Layer
layer OutOfService = Switch
layer NoSuchInput = Batch
layer NoSuchOutput = Batch
layer InputFull = Batch
layer OutputFull = Batch
layer ListTooShort = Switch
layer LeftOver = Switch
layer NoSlotsLeft = Batch
layer MessageCut = Format
layer UnknownMessageKind = Format
layer OtherPacketKind = Format
layer MessageRunsOn = Format
layer CountTooLarge = Format
layer MemoryTooShort = Format
layer OutOfRange = Format
layer DocumentCut = Format
layer RowBreaksRule = Format
layer SpareBitsSet = Format
layer DocumentRunsOn = Format
layer TooManyRows = Format

abbrev pub layer_number : Layer → ℕ
layer_number Format = 1
layer_number Switch = 2
layer_number Batch = 3
