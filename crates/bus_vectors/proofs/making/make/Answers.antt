use Rattle.bus_vectors.proofs.making.make.Goals as goal

pub returns-in_err-table-clause-fit : goal.returns-in_err-table-clause-fit
returns-in_err-table-clause-fit c = (c.made_items_fit.ensures c.args.number).1

pub returns-in_err-table-clause-even : goal.returns-in_err-table-clause-even
returns-in_err-table-clause-even c = c.made_items_are_even.ensures c.args.number

pub returns-in_err-items-clause-fit : goal.returns-in_err-items-clause-fit
returns-in_err-items-clause-fit c = (c.made_items_fit.ensures c.args.number).1

pub returns-in_err-items-clause-even : goal.returns-in_err-items-clause-even
returns-in_err-items-clause-even c = c.made_items_are_even.ensures c.args.number

pub returns-clause-fit : goal.returns-clause-fit
returns-clause-fit c = (c.made_items_fit.ensures c.args.number).1

pub returns-clause-even : goal.returns-clause-even
returns-clause-even c = c.made_items_are_even.ensures c.args.number
