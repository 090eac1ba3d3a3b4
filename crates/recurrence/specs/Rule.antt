-- The two rules of lowering, by whose search asks (specs/Search.antt, is_lowered): that of the first orders, and that of the climb out of underflow.
-- They are the cases of src/search.rt, and a definition by cases goes by these names too. Definitions only.
use Rattle.recurrence.specs.declared.search.Rule as search
use Rattle.recurrence.specs.declared.search.Rule.TheVariants as cases

abbrev pub Rule : Type 0
Rule = search.Rule

pattern abbrev pub FirstOrders : Rule
FirstOrders = cases.FirstOrders

pattern abbrev pub OutOfUnderflow : Rule
OutOfUnderflow = cases.OutOfUnderflow
