-- Document 01, "Refusals": their numbers. The trade's words are in the comments.
use Rattle.std.specs.Prelude.{ℕ}
use Rattle.fault.specs.declared.Fault.{Fault}
use Rattle.fault.specs.declared.Fault.TheVariants as faults

abbrev pub number_of : Fault → ℕ
number_of faults.Truncated = 1  -- cut short
number_of faults.Unexpected = 2  -- stray
number_of faults.WrongLength = 3  -- misfit
number_of faults.BadShape = 4  -- shape
number_of faults.BadCeiling = 5  -- ceiling
number_of faults.ZeroWeight = 6  -- no weight
number_of faults.BadThickness = 7  -- thickness
number_of faults.BadWedge = 8  -- wedge
number_of faults.NotDominant = 9  -- unheld
number_of faults.WrongBuffer = 10  -- buffer
number_of faults.BadOrder = 11  -- order
number_of faults.StartAboveCeiling = 12  -- start
number_of faults.OutOfGrid = 13  -- line
number_of faults.BadCoefficient = 14  -- coefficient
number_of faults.BadStep = 15  -- a step (document 02, W2)
number_of faults.NoWeights = 16  -- Over in the search for weights (document 02, W5)
number_of faults.WeightsNotFound = 17  -- neither Over nor Done in it
