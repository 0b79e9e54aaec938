use Rattle.std.proofs.Common.{arith}
use Rattle.std.proofs.lemmas.Grind.{common_steps}
use Rattle.bus_command.proofs.fault_line.put_words.Goals as goal

pub returns-in-Done : goal.returns-in-Done
returns-in-Done g c = grind (arith, common_steps)

pub returns-in-Usage : goal.returns-in-Usage
returns-in-Usage g c = grind (arith, common_steps)

pub returns-in-Unfit : goal.returns-in-Unfit
returns-in-Unfit g c = grind (arith, common_steps)

pub returns-in-NoMemory : goal.returns-in-NoMemory
returns-in-NoMemory g c = grind (arith, common_steps)

pub returns-in-TooLarge : goal.returns-in-TooLarge
returns-in-TooLarge g c = grind (arith, common_steps)

pub returns-in-TableText : goal.returns-in-TableText
returns-in-TableText g c = grind (arith, common_steps)
