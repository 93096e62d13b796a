-- The number and the layer of each refusal of a line or a frame. Assumes nothing.
--     fault_number f, fault_layer f the number of the refusal f, and the layer that it comes from
--     layer_number l              the number of the layer
--     layer_of b                  the layer of that number
--     meant o                     what is meant, or that it is of no kind
use Rattle.std.specs.Prelude.{ℕ, cond, Some, None, Ok, Err, Option, Result, ◌==◌}
use Rattle.frames.specs.declared.fault.LineFault.TheVariants.{WrongSize, NoDigit}
use Rattle.frames.specs.declared.fault.FrameFault.{FrameFault}
use Rattle.frames.specs.declared.fault.FrameFault.TheVariants.{Line, UnknownKind, WrongLength, WrongCheck}
use Rattle.frames.specs.declared.fault.Layer.{Layer}
use Rattle.frames.specs.declared.fault.Layer.TheVariants as layer

abbrev pub fault_number : FrameFault → ℕ
fault_number (Line WrongSize) = 1
fault_number (Line NoDigit) = 2
fault_number UnknownKind = 3
fault_number WrongLength = 4
fault_number WrongCheck = 5

abbrev pub fault_layer : FrameFault → Layer
fault_layer (Line e) = layer.Line
fault_layer UnknownKind = layer.Frame
fault_layer WrongLength = layer.Frame
fault_layer WrongCheck = layer.Frame

abbrev pub layer_number : Layer → ℕ
layer_number layer.Line = 1
layer_number layer.Frame = 2
layer_number layer.Call = 3

abbrev pub layer_of : ℕ → Option Layer
layer_of b = cond (b == 1) (Some layer.Line) (cond (b == 2) (Some layer.Frame) (cond (b == 3) (Some layer.Call) None))

abbrev pub meant : {X : Type 0} → Option X → Result X FrameFault
meant None = Err UnknownKind
meant (Some x) = Ok x
