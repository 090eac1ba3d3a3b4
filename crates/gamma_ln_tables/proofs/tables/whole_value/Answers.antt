-- `gamma_ln_tables::tables::whole_value` meets its contract at each of 101 entries. Written by tools/tables/gamma_ln.py. Assumes nothing.
use Rattle.laws.proofs.Arms.{last}
use Rattle.gamma_ln_tables.specs.Tables.{whole_values}
use Rattle.gamma_ln_tables.proofs.tables.whole_value.Goals as goal

pub returns-in-0 : goal.returns-in-0
unfolding whole_values
returns-in-0 c = rw c.in-0.is

pub returns-in-1 : goal.returns-in-1
unfolding whole_values
returns-in-1 c = rw c.in-1.is

pub returns-in-2 : goal.returns-in-2
unfolding whole_values
returns-in-2 c = rw c.in-2.is

pub returns-in-3 : goal.returns-in-3
unfolding whole_values
returns-in-3 c = rw c.in-3.is

pub returns-in-4 : goal.returns-in-4
unfolding whole_values
returns-in-4 c = rw c.in-4.is

pub returns-in-5 : goal.returns-in-5
unfolding whole_values
returns-in-5 c = rw c.in-5.is

pub returns-in-6 : goal.returns-in-6
unfolding whole_values
returns-in-6 c = rw c.in-6.is

pub returns-in-7 : goal.returns-in-7
unfolding whole_values
returns-in-7 c = rw c.in-7.is

pub returns-in-8 : goal.returns-in-8
unfolding whole_values
returns-in-8 c = rw c.in-8.is

pub returns-in-9 : goal.returns-in-9
unfolding whole_values
returns-in-9 c = rw c.in-9.is

pub returns-in-10 : goal.returns-in-10
unfolding whole_values
returns-in-10 c = rw c.in-10.is

pub returns-in-11 : goal.returns-in-11
unfolding whole_values
returns-in-11 c = rw c.in-11.is

pub returns-in-12 : goal.returns-in-12
unfolding whole_values
returns-in-12 c = rw c.in-12.is

pub returns-in-13 : goal.returns-in-13
unfolding whole_values
returns-in-13 c = rw c.in-13.is

pub returns-in-14 : goal.returns-in-14
unfolding whole_values
returns-in-14 c = rw c.in-14.is

pub returns-in-15 : goal.returns-in-15
unfolding whole_values
returns-in-15 c = rw c.in-15.is

pub returns-in-16 : goal.returns-in-16
unfolding whole_values
returns-in-16 c = rw c.in-16.is

pub returns-in-17 : goal.returns-in-17
unfolding whole_values
returns-in-17 c = rw c.in-17.is

pub returns-in-18 : goal.returns-in-18
unfolding whole_values
returns-in-18 c = rw c.in-18.is

pub returns-in-19 : goal.returns-in-19
unfolding whole_values
returns-in-19 c = rw c.in-19.is

pub returns-in-20 : goal.returns-in-20
unfolding whole_values
returns-in-20 c = rw c.in-20.is

pub returns-in-21 : goal.returns-in-21
unfolding whole_values
returns-in-21 c = rw c.in-21.is

pub returns-in-22 : goal.returns-in-22
unfolding whole_values
returns-in-22 c = rw c.in-22.is

pub returns-in-23 : goal.returns-in-23
unfolding whole_values
returns-in-23 c = rw c.in-23.is

pub returns-in-24 : goal.returns-in-24
unfolding whole_values
returns-in-24 c = rw c.in-24.is

pub returns-in-25 : goal.returns-in-25
unfolding whole_values
returns-in-25 c = rw c.in-25.is

pub returns-in-26 : goal.returns-in-26
unfolding whole_values
returns-in-26 c = rw c.in-26.is

pub returns-in-27 : goal.returns-in-27
unfolding whole_values
returns-in-27 c = rw c.in-27.is

pub returns-in-28 : goal.returns-in-28
unfolding whole_values
returns-in-28 c = rw c.in-28.is

pub returns-in-29 : goal.returns-in-29
unfolding whole_values
returns-in-29 c = rw c.in-29.is

pub returns-in-30 : goal.returns-in-30
unfolding whole_values
returns-in-30 c = rw c.in-30.is

pub returns-in-31 : goal.returns-in-31
unfolding whole_values
returns-in-31 c = rw c.in-31.is

pub returns-in-32 : goal.returns-in-32
unfolding whole_values
returns-in-32 c = rw c.in-32.is

pub returns-in-33 : goal.returns-in-33
unfolding whole_values
returns-in-33 c = rw c.in-33.is

pub returns-in-34 : goal.returns-in-34
unfolding whole_values
returns-in-34 c = rw c.in-34.is

pub returns-in-35 : goal.returns-in-35
unfolding whole_values
returns-in-35 c = rw c.in-35.is

pub returns-in-36 : goal.returns-in-36
unfolding whole_values
returns-in-36 c = rw c.in-36.is

pub returns-in-37 : goal.returns-in-37
unfolding whole_values
returns-in-37 c = rw c.in-37.is

pub returns-in-38 : goal.returns-in-38
unfolding whole_values
returns-in-38 c = rw c.in-38.is

pub returns-in-39 : goal.returns-in-39
unfolding whole_values
returns-in-39 c = rw c.in-39.is

pub returns-in-40 : goal.returns-in-40
unfolding whole_values
returns-in-40 c = rw c.in-40.is

pub returns-in-41 : goal.returns-in-41
unfolding whole_values
returns-in-41 c = rw c.in-41.is

pub returns-in-42 : goal.returns-in-42
unfolding whole_values
returns-in-42 c = rw c.in-42.is

pub returns-in-43 : goal.returns-in-43
unfolding whole_values
returns-in-43 c = rw c.in-43.is

pub returns-in-44 : goal.returns-in-44
unfolding whole_values
returns-in-44 c = rw c.in-44.is

pub returns-in-45 : goal.returns-in-45
unfolding whole_values
returns-in-45 c = rw c.in-45.is

pub returns-in-46 : goal.returns-in-46
unfolding whole_values
returns-in-46 c = rw c.in-46.is

pub returns-in-47 : goal.returns-in-47
unfolding whole_values
returns-in-47 c = rw c.in-47.is

pub returns-in-48 : goal.returns-in-48
unfolding whole_values
returns-in-48 c = rw c.in-48.is

pub returns-in-49 : goal.returns-in-49
unfolding whole_values
returns-in-49 c = rw c.in-49.is

pub returns-in-50 : goal.returns-in-50
unfolding whole_values
returns-in-50 c = rw c.in-50.is

pub returns-in-51 : goal.returns-in-51
unfolding whole_values
returns-in-51 c = rw c.in-51.is

pub returns-in-52 : goal.returns-in-52
unfolding whole_values
returns-in-52 c = rw c.in-52.is

pub returns-in-53 : goal.returns-in-53
unfolding whole_values
returns-in-53 c = rw c.in-53.is

pub returns-in-54 : goal.returns-in-54
unfolding whole_values
returns-in-54 c = rw c.in-54.is

pub returns-in-55 : goal.returns-in-55
unfolding whole_values
returns-in-55 c = rw c.in-55.is

pub returns-in-56 : goal.returns-in-56
unfolding whole_values
returns-in-56 c = rw c.in-56.is

pub returns-in-57 : goal.returns-in-57
unfolding whole_values
returns-in-57 c = rw c.in-57.is

pub returns-in-58 : goal.returns-in-58
unfolding whole_values
returns-in-58 c = rw c.in-58.is

pub returns-in-59 : goal.returns-in-59
unfolding whole_values
returns-in-59 c = rw c.in-59.is

pub returns-in-60 : goal.returns-in-60
unfolding whole_values
returns-in-60 c = rw c.in-60.is

pub returns-in-61 : goal.returns-in-61
unfolding whole_values
returns-in-61 c = rw c.in-61.is

pub returns-in-62 : goal.returns-in-62
unfolding whole_values
returns-in-62 c = rw c.in-62.is

pub returns-in-63 : goal.returns-in-63
unfolding whole_values
returns-in-63 c = rw c.in-63.is

pub returns-in-64 : goal.returns-in-64
unfolding whole_values
returns-in-64 c = rw c.in-64.is

pub returns-in-65 : goal.returns-in-65
unfolding whole_values
returns-in-65 c = rw c.in-65.is

pub returns-in-66 : goal.returns-in-66
unfolding whole_values
returns-in-66 c = rw c.in-66.is

pub returns-in-67 : goal.returns-in-67
unfolding whole_values
returns-in-67 c = rw c.in-67.is

pub returns-in-68 : goal.returns-in-68
unfolding whole_values
returns-in-68 c = rw c.in-68.is

pub returns-in-69 : goal.returns-in-69
unfolding whole_values
returns-in-69 c = rw c.in-69.is

pub returns-in-70 : goal.returns-in-70
unfolding whole_values
returns-in-70 c = rw c.in-70.is

pub returns-in-71 : goal.returns-in-71
unfolding whole_values
returns-in-71 c = rw c.in-71.is

pub returns-in-72 : goal.returns-in-72
unfolding whole_values
returns-in-72 c = rw c.in-72.is

pub returns-in-73 : goal.returns-in-73
unfolding whole_values
returns-in-73 c = rw c.in-73.is

pub returns-in-74 : goal.returns-in-74
unfolding whole_values
returns-in-74 c = rw c.in-74.is

pub returns-in-75 : goal.returns-in-75
unfolding whole_values
returns-in-75 c = rw c.in-75.is

pub returns-in-76 : goal.returns-in-76
unfolding whole_values
returns-in-76 c = rw c.in-76.is

pub returns-in-77 : goal.returns-in-77
unfolding whole_values
returns-in-77 c = rw c.in-77.is

pub returns-in-78 : goal.returns-in-78
unfolding whole_values
returns-in-78 c = rw c.in-78.is

pub returns-in-79 : goal.returns-in-79
unfolding whole_values
returns-in-79 c = rw c.in-79.is

pub returns-in-80 : goal.returns-in-80
unfolding whole_values
returns-in-80 c = rw c.in-80.is

pub returns-in-81 : goal.returns-in-81
unfolding whole_values
returns-in-81 c = rw c.in-81.is

pub returns-in-82 : goal.returns-in-82
unfolding whole_values
returns-in-82 c = rw c.in-82.is

pub returns-in-83 : goal.returns-in-83
unfolding whole_values
returns-in-83 c = rw c.in-83.is

pub returns-in-84 : goal.returns-in-84
unfolding whole_values
returns-in-84 c = rw c.in-84.is

pub returns-in-85 : goal.returns-in-85
unfolding whole_values
returns-in-85 c = rw c.in-85.is

pub returns-in-86 : goal.returns-in-86
unfolding whole_values
returns-in-86 c = rw c.in-86.is

pub returns-in-87 : goal.returns-in-87
unfolding whole_values
returns-in-87 c = rw c.in-87.is

pub returns-in-88 : goal.returns-in-88
unfolding whole_values
returns-in-88 c = rw c.in-88.is

pub returns-in-89 : goal.returns-in-89
unfolding whole_values
returns-in-89 c = rw c.in-89.is

pub returns-in-90 : goal.returns-in-90
unfolding whole_values
returns-in-90 c = rw c.in-90.is

pub returns-in-91 : goal.returns-in-91
unfolding whole_values
returns-in-91 c = rw c.in-91.is

pub returns-in-92 : goal.returns-in-92
unfolding whole_values
returns-in-92 c = rw c.in-92.is

pub returns-in-93 : goal.returns-in-93
unfolding whole_values
returns-in-93 c = rw c.in-93.is

pub returns-in-94 : goal.returns-in-94
unfolding whole_values
returns-in-94 c = rw c.in-94.is

pub returns-in-95 : goal.returns-in-95
unfolding whole_values
returns-in-95 c = rw c.in-95.is

pub returns-in-96 : goal.returns-in-96
unfolding whole_values
returns-in-96 c = rw c.in-96.is

pub returns-in-97 : goal.returns-in-97
unfolding whole_values
returns-in-97 c = rw c.in-97.is

pub returns-in-98 : goal.returns-in-98
unfolding whole_values
returns-in-98 c = rw c.in-98.is

pub returns-in-99 : goal.returns-in-99
unfolding whole_values
returns-in-99 c = rw c.in-99.is

pub returns-in_default : goal.returns-in_default
unfolding whole_values
returns-in_default c = rw (last 100 c.args.j c.requires c.in_default.in_default-own.rest)
