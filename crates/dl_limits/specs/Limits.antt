-- The bounds of a plan, of its settings and of the numbers that follow from them, each once.
use Rattle.std.specs.Prelude.{ℕ, ◌+◌, ◌-◌, ◌*◌, ◌^◌, ◌≤◌, nat_le, if◌then◌else◌}

-- ---- a plan

-- a plan's grid has 2 to the power of at most this many cells
abbrev pub most_log2 : ℕ
most_log2 = 16

-- so many at most
abbrev pub most_plan_cells : ℕ
most_plan_cells = 65536

-- a plan's grid of at most so many cells has the finer of the two scales
abbrev pub most_short_cells : ℕ
most_short_cells = 4096

-- its ends are in units of 1 / 2^56
abbrev pub short_bits : ℕ
short_bits = 56

-- those of a longer one are in units of 1 / 2^48
abbrev pub long_bits : ℕ
long_bits = 48

-- the ends of a plan's grid of so many cells are in units of 1 over 2 to this power
unfoldable pub bits_of : ℕ → ℕ
bits_of cells = if nat_le cells most_short_cells then short_bits else long_bits

-- a scale of 2 to this power lies between those two, both taken in
pub record IsPlanScale (bits : ℕ) : Type 0 where
  pub least : long_bits ≤ bits
  pub most : bits ≤ short_bits

-- the cells of any grid: the horizon of a clause may lie past the plan's grid
abbrev pub most_cells : ℕ
most_cells = 65536

-- those of a grid at the finer scale
abbrev pub most_fine_cells : ℕ
most_fine_cells = 16384

-- the most cells of a grid with ends in units of 1 over 2 to the power `bits`
unfoldable pub most_cells_at : ℕ → ℕ
most_cells_at bits = if nat_le bits long_bits then most_cells else most_fine_cells

-- the most buckets of a clause's horizon, in a plan with a grid of so many cells
abbrev pub most_horizon : ℕ → ℕ
most_horizon cells = most_cells_at (bits_of cells)

-- an amount, a limit or an attachment, in buckets, in any plan
abbrev pub most_amount : ℕ
most_amount = 2 ^ 22

-- the same in a plan with a grid of at most `most_short_cells` cells
abbrev pub most_short_amount : ℕ
most_short_amount = 2 ^ 20

-- an amount, a limit or an attachment, in buckets, in a plan with a grid of so many cells
unfoldable pub most_amount_at : ℕ → ℕ
most_amount_at cells = if nat_le cells most_short_cells then most_short_amount else most_amount

-- a fixed or listed number of claims, and a number of trials
abbrev pub most_claims : ℕ
most_claims = 65536

-- the items of a severity, where the count of its claims has a greatest number
abbrev pub most_items : ℕ
most_items = 65536

-- the mean of all units of a plan with a grid of at most `most_short_cells` cells, in buckets
abbrev pub most_short_total : ℕ
most_short_total = 17 * 2 ^ 36

-- the same in any plan
abbrev pub most_total : ℕ
most_total = 17 * 2 ^ 38

-- the same in a plan with a grid of so many cells
unfoldable pub most_total_at : ℕ → ℕ
most_total_at cells = if nat_le cells most_short_cells then most_short_total else most_total

-- a change of the probability of no claim makes a mean at most so many times as large
abbrev pub most_growth : ℕ
most_growth = 17

-- the expected number of claims above 0, where the count has no greatest number
abbrev pub most_expected : ℕ
most_expected = 4096

-- the shape of a gamma count
abbrev pub most_shape : ℕ
most_shape = 10000

-- the expected claims above 0 of a gamma count over its shape
abbrev pub most_beta : ℕ
most_beta = 32768

-- the common denominator of the shares of a clause, and of what Poisson units that are pooled have
-- of all claims and of their amounts
abbrev pub most_parts : ℕ
most_parts = 2 ^ 30

-- the common denominator of the probabilities of a severity or of listed counts: what their whole
-- weights sum to
abbrev pub most_weights : ℕ
most_weights = 2 ^ 40

-- the units of a plan
abbrev pub most_units : ℕ
most_units = 256

-- of these, the units whose probability of no claim is changed
abbrev pub most_changed : ℕ
most_changed = 16

-- the units of a plan by the standard rules
abbrev pub standard_units : ℕ
standard_units = 16

-- the layers of a clause
abbrev pub most_layers : ℕ
most_layers = 16

-- the atoms of a severity
abbrev pub most_atoms : ℕ
most_atoms = 64

-- the values of a list
abbrev pub most_values : ℕ
most_values = 65536

-- the same by the standard rules
abbrev pub standard_values : ℕ
standard_values = 1024

-- the common denominator of probabilities, by the standard rules
abbrev pub standard_weights : ℕ
standard_weights = 2 ^ 30

-- the common denominator of the ends and the step of a range of values
abbrev pub most_range_parts : ℕ
most_range_parts = 1000000

-- a listed count
abbrev pub most_count : ℕ
most_count = 256

-- the parts of an admitted fraction are below this
abbrev pub admitted_bound : ℕ
admitted_bound = 2 ^ 48

-- the parts of a probability of no claim that a count is changed to are below this
abbrev pub zero_bound : ℕ
zero_bound = 2 ^ 37

-- the probability of no claim is changed where at least 1 claim in so many units is expected
abbrev pub rarest_claims : ℕ
rarest_claims = 16

-- the numerator of a numeral of at most 11 digits is below this, and its denominator at most this
abbrev pub numeral_bound : ℕ
numeral_bound = 10 ^ 11

-- the parts of an amount in buckets, before it is put on the grid, are below this
abbrev pub amount_bound : ℕ
amount_bound = 10 ^ 18

-- what two words of 32 bits add up to is below this: a limit and an attachment, in buckets, or the
-- first counts of two blocks of a listed count
abbrev pub edge_bound : ℕ
edge_bound = 2 ^ 33

-- ---- a call

-- the bytes of an input
abbrev pub most_text : ℕ
most_text = 1048576

-- a plan that has a certificate has at most so many cells
abbrev pub most_cert_cells : ℕ
most_cert_cells = 1024

-- a certificate has at most so many bytes
abbrev pub most_cert_text : ℕ
most_cert_text = 66000000

-- so many bytes of steps are checked at most, and so many are read of a program and steps
abbrev pub most_steps_text : ℕ
most_steps_text = 67108864

-- the asks of a call
abbrev pub most_asks : ℕ
most_asks = 256

-- the denominator of the probability of a quantile, a tail mean or a price
abbrev pub most_level_den : ℕ
most_level_den = 10 ^ 9

-- the denominator of the probability of a share of the tail mean
abbrev pub most_share_den : ℕ
most_share_den = 10 ^ 4

-- the width that is asked of a probability, in units of the last printed digit
abbrev pub most_width : ℕ
most_width = 1000000000

-- the width that is asked of a mean, in units of the last printed digit
abbrev pub most_mean_width : ℕ
most_mean_width = 1000000000000

-- the number of a step of a certificate, counted from 0, is below this: it has at most 9 digits
abbrev pub step_bound : ℕ
step_bound = 10 ^ 9

-- the steps before those of a unit are fewer than this
abbrev pub steps_bound : ℕ
steps_bound = 10 ^ 8

-- kappa is reported only where P(total) is at least 1 over this
abbrev pub rarest_parts : ℕ
rarest_parts = 2 ^ 16

-- the decimals of a printed end
abbrev pub most_digits : ℕ
most_digits = 9

-- ---- what follows from a plan

-- the parts of a fraction that the program holds are below this
abbrev pub frac_bound : ℕ
frac_bound = 2 ^ 62

-- sums of claims, in buckets, are below this
abbrev pub sum_bound : ℕ
sum_bound = 2 ^ 40

-- the budget of a unit's claims, in units of the scale
abbrev pub most_claims_budget : ℕ
most_claims_budget = 22 * 2 ^ 30

-- the budget of a sum of units is below this
abbrev pub budget_bound : ℕ
budget_bound = 2 ^ 45

-- that of a sum of at most `standard_units` units
abbrev pub standard_budget_bound : ℕ
standard_budget_bound = 2 ^ 44

-- an end of a cell of any grid, in units of its scale: so many make 1 at the finest scale
abbrev pub most_cell_end : ℕ
most_cell_end = 2 ^ 56

-- the ends of a grid, added up over all cells, in units of its scale
abbrev pub most_ends : ℕ
most_ends = 2 ^ 70

-- the products of two ends, added up over all cells of a grid, in units of the square of its scale
abbrev pub most_products : ℕ
most_products = 2 ^ 126

-- the high end of an interval, in units of its scale
abbrev pub most_high : ℕ
most_high = 2 ^ 127

-- the numerator of a number that is enclosed is below this
abbrev pub enclosed_num_bound : ℕ
enclosed_num_bound = 2 ^ 110

-- the denominator of a number that is enclosed is below this
abbrev pub enclosed_den_bound : ℕ
enclosed_den_bound = 2 ^ 100

-- the numerator of the mean of a unit's claims, in buckets, is below this
abbrev pub mean_num_bound : ℕ
mean_num_bound = 2 ^ 110

-- the denominator of that mean is below this
abbrev pub mean_den_bound : ℕ
mean_den_bound = 2 ^ 88

-- so many units make 1 in the sums of the series of an exponential
abbrev pub series_one : ℕ
series_one = 2 ^ 63

-- ---- how large means are, their high ends in units of the scale

-- the mean of one claim above 0
abbrev pub most_claim_mean : ℕ
most_claim_mean = 2 ^ 71

-- the mean of a unit before its aggregate clause
abbrev pub most_gross_mean : ℕ
most_gross_mean = 2 ^ 94

-- the same in whole buckets, where the unit's probability of no claim is changed
abbrev pub most_whole_mean : ℕ
most_whole_mean = 2 ^ 34

-- the mean of a unit before its probability of no claim is changed, where it is: at most
-- `most_expected` claims are expected then
abbrev pub most_mean_to_change : ℕ
most_mean_to_change = 2 ^ 88 + 2 ^ 82

-- the mean that a change of the probability of no claim has room for
abbrev pub most_mean_before : ℕ
most_mean_before = 2 ^ 90

-- the mean of a unit
abbrev pub most_unit_mean : ℕ
most_unit_mean = 2 ^ 93

-- the mean of the total
abbrev pub most_mean : ℕ
most_mean = 2 ^ 97

-- a unit's share of a tail mean
abbrev pub most_share_mean : ℕ
most_share_mean = 2 ^ 112

-- the same at every level
abbrev pub most_share_end : ℕ
most_share_end = 2 ^ 127

-- ---- how far two ends can lie apart, in units of the scale

-- the operands of a power, of a listed count or of halvings, each with its roundings, all together:
-- what they come to is then at most the greatest budget of a unit's claims
abbrev pub most_operands : ℕ
most_operands = 21 * 2 ^ 30

-- a unit after its aggregate clause
abbrev pub most_clause_budget : ℕ
most_clause_budget = 44 * 2 ^ 30

-- the probability of no claim, where it is changed
abbrev pub most_none_budget : ℕ
most_none_budget = 142 * 2 ^ 13

-- a unit after its probability of no claim is changed
abbrev pub most_unit_budget : ℕ
most_unit_budget = 793 * 2 ^ 30

-- the greatest budgets of the units of a plan, each with what one convolution rounds, added up
abbrev pub most_sum_operands : ℕ
most_sum_operands = 23249 * 2 ^ 30

-- one convolution of two grids within `budget_bound`
abbrev pub most_convolution_budget : ℕ
most_convolution_budget = 2 ^ 47

-- what a layer of an aggregate clause adds to a mean's
abbrev pub most_layer_mean_budget : ℕ
most_layer_mean_budget = 2 ^ 51

-- what all layers of a clause add
abbrev pub most_layers_mean_budget : ℕ
most_layers_mean_budget = 2 ^ 55

-- the mean of a unit after its aggregate clause
abbrev pub most_clause_mean_budget : ℕ
most_clause_mean_budget = 2 ^ 56

-- the mean of a unit after its probability of no claim is changed
abbrev pub most_unit_mean_budget : ℕ
most_unit_mean_budget = 104 * 2 ^ 56

-- a unit's joint mean with a total of independent units, from the sum of the others
abbrev pub most_alone_joint_budget : ℕ
most_alone_joint_budget = 2 ^ 63

-- a unit's joint mean with any total
abbrev pub most_joint_budget : ℕ
most_joint_budget = 2 ^ 63

-- the mean of the total
abbrev pub most_mean_budget : ℕ
most_mean_budget = 2 ^ 67

-- an ask
abbrev pub most_ask_budget : ℕ
most_ask_budget = 2 ^ 98

-- a tail mean
abbrev pub most_tail_budget : ℕ
most_tail_budget = 2 ^ 98 - 2 ^ 90

-- a term of a price
abbrev pub most_term_budget : ℕ
most_term_budget = 2 ^ 118

-- a share of a total of at least 1 / `rarest_parts`
abbrev pub most_kappa_budget : ℕ
most_kappa_budget = 2 ^ 80

-- ---- the one recursion of a unit's mean, in whole numbers

-- cell 0 begins as 2 to this power
abbrev pub start_bits : ℕ
start_bits = 61

-- the greatest end of a cell
abbrev pub most_end : ℕ
most_end = 2 ^ 62

-- the greatest end of a cell in a pass is at least this
abbrev pub least_pass_end : ℕ
least_pass_end = 2 ^ 57

-- the greatest high end of the probability of no claim, in its own units
abbrev pub most_start : ℕ
most_start = 2 ^ 63

-- the most that all amounts give to a cell: less than 2^64 times the greatest end
abbrev pub most_given : ℕ
most_given = 2 ^ 126
