-- `exponential_tables::tables::coarse` meets its contract, at each of its 177 indices. Assumes nothing.
-- Written by tools/tables/exponential.py.
use Rattle.exponential_tables.specs.Tables.{coarse_high, coarse_low, coarse_power}
use Rattle.laws.proofs.Arms.{last}
use Rattle.exponential_tables.proofs.tables.coarse.Goals as goal

pub returns-in-0 : goal.returns-in-0
unfolding coarse_high coarse_low coarse_power
returns-in-0 c = rw c.in-0.is

pub returns-in-1 : goal.returns-in-1
unfolding coarse_high coarse_low coarse_power
returns-in-1 c = rw c.in-1.is

pub returns-in-2 : goal.returns-in-2
unfolding coarse_high coarse_low coarse_power
returns-in-2 c = rw c.in-2.is

pub returns-in-3 : goal.returns-in-3
unfolding coarse_high coarse_low coarse_power
returns-in-3 c = rw c.in-3.is

pub returns-in-4 : goal.returns-in-4
unfolding coarse_high coarse_low coarse_power
returns-in-4 c = rw c.in-4.is

pub returns-in-5 : goal.returns-in-5
unfolding coarse_high coarse_low coarse_power
returns-in-5 c = rw c.in-5.is

pub returns-in-6 : goal.returns-in-6
unfolding coarse_high coarse_low coarse_power
returns-in-6 c = rw c.in-6.is

pub returns-in-7 : goal.returns-in-7
unfolding coarse_high coarse_low coarse_power
returns-in-7 c = rw c.in-7.is

pub returns-in-8 : goal.returns-in-8
unfolding coarse_high coarse_low coarse_power
returns-in-8 c = rw c.in-8.is

pub returns-in-9 : goal.returns-in-9
unfolding coarse_high coarse_low coarse_power
returns-in-9 c = rw c.in-9.is

pub returns-in-10 : goal.returns-in-10
unfolding coarse_high coarse_low coarse_power
returns-in-10 c = rw c.in-10.is

pub returns-in-11 : goal.returns-in-11
unfolding coarse_high coarse_low coarse_power
returns-in-11 c = rw c.in-11.is

pub returns-in-12 : goal.returns-in-12
unfolding coarse_high coarse_low coarse_power
returns-in-12 c = rw c.in-12.is

pub returns-in-13 : goal.returns-in-13
unfolding coarse_high coarse_low coarse_power
returns-in-13 c = rw c.in-13.is

pub returns-in-14 : goal.returns-in-14
unfolding coarse_high coarse_low coarse_power
returns-in-14 c = rw c.in-14.is

pub returns-in-15 : goal.returns-in-15
unfolding coarse_high coarse_low coarse_power
returns-in-15 c = rw c.in-15.is

pub returns-in-16 : goal.returns-in-16
unfolding coarse_high coarse_low coarse_power
returns-in-16 c = rw c.in-16.is

pub returns-in-17 : goal.returns-in-17
unfolding coarse_high coarse_low coarse_power
returns-in-17 c = rw c.in-17.is

pub returns-in-18 : goal.returns-in-18
unfolding coarse_high coarse_low coarse_power
returns-in-18 c = rw c.in-18.is

pub returns-in-19 : goal.returns-in-19
unfolding coarse_high coarse_low coarse_power
returns-in-19 c = rw c.in-19.is

pub returns-in-20 : goal.returns-in-20
unfolding coarse_high coarse_low coarse_power
returns-in-20 c = rw c.in-20.is

pub returns-in-21 : goal.returns-in-21
unfolding coarse_high coarse_low coarse_power
returns-in-21 c = rw c.in-21.is

pub returns-in-22 : goal.returns-in-22
unfolding coarse_high coarse_low coarse_power
returns-in-22 c = rw c.in-22.is

pub returns-in-23 : goal.returns-in-23
unfolding coarse_high coarse_low coarse_power
returns-in-23 c = rw c.in-23.is

pub returns-in-24 : goal.returns-in-24
unfolding coarse_high coarse_low coarse_power
returns-in-24 c = rw c.in-24.is

pub returns-in-25 : goal.returns-in-25
unfolding coarse_high coarse_low coarse_power
returns-in-25 c = rw c.in-25.is

pub returns-in-26 : goal.returns-in-26
unfolding coarse_high coarse_low coarse_power
returns-in-26 c = rw c.in-26.is

pub returns-in-27 : goal.returns-in-27
unfolding coarse_high coarse_low coarse_power
returns-in-27 c = rw c.in-27.is

pub returns-in-28 : goal.returns-in-28
unfolding coarse_high coarse_low coarse_power
returns-in-28 c = rw c.in-28.is

pub returns-in-29 : goal.returns-in-29
unfolding coarse_high coarse_low coarse_power
returns-in-29 c = rw c.in-29.is

pub returns-in-30 : goal.returns-in-30
unfolding coarse_high coarse_low coarse_power
returns-in-30 c = rw c.in-30.is

pub returns-in-31 : goal.returns-in-31
unfolding coarse_high coarse_low coarse_power
returns-in-31 c = rw c.in-31.is

pub returns-in-32 : goal.returns-in-32
unfolding coarse_high coarse_low coarse_power
returns-in-32 c = rw c.in-32.is

pub returns-in-33 : goal.returns-in-33
unfolding coarse_high coarse_low coarse_power
returns-in-33 c = rw c.in-33.is

pub returns-in-34 : goal.returns-in-34
unfolding coarse_high coarse_low coarse_power
returns-in-34 c = rw c.in-34.is

pub returns-in-35 : goal.returns-in-35
unfolding coarse_high coarse_low coarse_power
returns-in-35 c = rw c.in-35.is

pub returns-in-36 : goal.returns-in-36
unfolding coarse_high coarse_low coarse_power
returns-in-36 c = rw c.in-36.is

pub returns-in-37 : goal.returns-in-37
unfolding coarse_high coarse_low coarse_power
returns-in-37 c = rw c.in-37.is

pub returns-in-38 : goal.returns-in-38
unfolding coarse_high coarse_low coarse_power
returns-in-38 c = rw c.in-38.is

pub returns-in-39 : goal.returns-in-39
unfolding coarse_high coarse_low coarse_power
returns-in-39 c = rw c.in-39.is

pub returns-in-40 : goal.returns-in-40
unfolding coarse_high coarse_low coarse_power
returns-in-40 c = rw c.in-40.is

pub returns-in-41 : goal.returns-in-41
unfolding coarse_high coarse_low coarse_power
returns-in-41 c = rw c.in-41.is

pub returns-in-42 : goal.returns-in-42
unfolding coarse_high coarse_low coarse_power
returns-in-42 c = rw c.in-42.is

pub returns-in-43 : goal.returns-in-43
unfolding coarse_high coarse_low coarse_power
returns-in-43 c = rw c.in-43.is

pub returns-in-44 : goal.returns-in-44
unfolding coarse_high coarse_low coarse_power
returns-in-44 c = rw c.in-44.is

pub returns-in-45 : goal.returns-in-45
unfolding coarse_high coarse_low coarse_power
returns-in-45 c = rw c.in-45.is

pub returns-in-46 : goal.returns-in-46
unfolding coarse_high coarse_low coarse_power
returns-in-46 c = rw c.in-46.is

pub returns-in-47 : goal.returns-in-47
unfolding coarse_high coarse_low coarse_power
returns-in-47 c = rw c.in-47.is

pub returns-in-48 : goal.returns-in-48
unfolding coarse_high coarse_low coarse_power
returns-in-48 c = rw c.in-48.is

pub returns-in-49 : goal.returns-in-49
unfolding coarse_high coarse_low coarse_power
returns-in-49 c = rw c.in-49.is

pub returns-in-50 : goal.returns-in-50
unfolding coarse_high coarse_low coarse_power
returns-in-50 c = rw c.in-50.is

pub returns-in-51 : goal.returns-in-51
unfolding coarse_high coarse_low coarse_power
returns-in-51 c = rw c.in-51.is

pub returns-in-52 : goal.returns-in-52
unfolding coarse_high coarse_low coarse_power
returns-in-52 c = rw c.in-52.is

pub returns-in-53 : goal.returns-in-53
unfolding coarse_high coarse_low coarse_power
returns-in-53 c = rw c.in-53.is

pub returns-in-54 : goal.returns-in-54
unfolding coarse_high coarse_low coarse_power
returns-in-54 c = rw c.in-54.is

pub returns-in-55 : goal.returns-in-55
unfolding coarse_high coarse_low coarse_power
returns-in-55 c = rw c.in-55.is

pub returns-in-56 : goal.returns-in-56
unfolding coarse_high coarse_low coarse_power
returns-in-56 c = rw c.in-56.is

pub returns-in-57 : goal.returns-in-57
unfolding coarse_high coarse_low coarse_power
returns-in-57 c = rw c.in-57.is

pub returns-in-58 : goal.returns-in-58
unfolding coarse_high coarse_low coarse_power
returns-in-58 c = rw c.in-58.is

pub returns-in-59 : goal.returns-in-59
unfolding coarse_high coarse_low coarse_power
returns-in-59 c = rw c.in-59.is

pub returns-in-60 : goal.returns-in-60
unfolding coarse_high coarse_low coarse_power
returns-in-60 c = rw c.in-60.is

pub returns-in-61 : goal.returns-in-61
unfolding coarse_high coarse_low coarse_power
returns-in-61 c = rw c.in-61.is

pub returns-in-62 : goal.returns-in-62
unfolding coarse_high coarse_low coarse_power
returns-in-62 c = rw c.in-62.is

pub returns-in-63 : goal.returns-in-63
unfolding coarse_high coarse_low coarse_power
returns-in-63 c = rw c.in-63.is

pub returns-in-64 : goal.returns-in-64
unfolding coarse_high coarse_low coarse_power
returns-in-64 c = rw c.in-64.is

pub returns-in-65 : goal.returns-in-65
unfolding coarse_high coarse_low coarse_power
returns-in-65 c = rw c.in-65.is

pub returns-in-66 : goal.returns-in-66
unfolding coarse_high coarse_low coarse_power
returns-in-66 c = rw c.in-66.is

pub returns-in-67 : goal.returns-in-67
unfolding coarse_high coarse_low coarse_power
returns-in-67 c = rw c.in-67.is

pub returns-in-68 : goal.returns-in-68
unfolding coarse_high coarse_low coarse_power
returns-in-68 c = rw c.in-68.is

pub returns-in-69 : goal.returns-in-69
unfolding coarse_high coarse_low coarse_power
returns-in-69 c = rw c.in-69.is

pub returns-in-70 : goal.returns-in-70
unfolding coarse_high coarse_low coarse_power
returns-in-70 c = rw c.in-70.is

pub returns-in-71 : goal.returns-in-71
unfolding coarse_high coarse_low coarse_power
returns-in-71 c = rw c.in-71.is

pub returns-in-72 : goal.returns-in-72
unfolding coarse_high coarse_low coarse_power
returns-in-72 c = rw c.in-72.is

pub returns-in-73 : goal.returns-in-73
unfolding coarse_high coarse_low coarse_power
returns-in-73 c = rw c.in-73.is

pub returns-in-74 : goal.returns-in-74
unfolding coarse_high coarse_low coarse_power
returns-in-74 c = rw c.in-74.is

pub returns-in-75 : goal.returns-in-75
unfolding coarse_high coarse_low coarse_power
returns-in-75 c = rw c.in-75.is

pub returns-in-76 : goal.returns-in-76
unfolding coarse_high coarse_low coarse_power
returns-in-76 c = rw c.in-76.is

pub returns-in-77 : goal.returns-in-77
unfolding coarse_high coarse_low coarse_power
returns-in-77 c = rw c.in-77.is

pub returns-in-78 : goal.returns-in-78
unfolding coarse_high coarse_low coarse_power
returns-in-78 c = rw c.in-78.is

pub returns-in-79 : goal.returns-in-79
unfolding coarse_high coarse_low coarse_power
returns-in-79 c = rw c.in-79.is

pub returns-in-80 : goal.returns-in-80
unfolding coarse_high coarse_low coarse_power
returns-in-80 c = rw c.in-80.is

pub returns-in-81 : goal.returns-in-81
unfolding coarse_high coarse_low coarse_power
returns-in-81 c = rw c.in-81.is

pub returns-in-82 : goal.returns-in-82
unfolding coarse_high coarse_low coarse_power
returns-in-82 c = rw c.in-82.is

pub returns-in-83 : goal.returns-in-83
unfolding coarse_high coarse_low coarse_power
returns-in-83 c = rw c.in-83.is

pub returns-in-84 : goal.returns-in-84
unfolding coarse_high coarse_low coarse_power
returns-in-84 c = rw c.in-84.is

pub returns-in-85 : goal.returns-in-85
unfolding coarse_high coarse_low coarse_power
returns-in-85 c = rw c.in-85.is

pub returns-in-86 : goal.returns-in-86
unfolding coarse_high coarse_low coarse_power
returns-in-86 c = rw c.in-86.is

pub returns-in-87 : goal.returns-in-87
unfolding coarse_high coarse_low coarse_power
returns-in-87 c = rw c.in-87.is

pub returns-in-88 : goal.returns-in-88
unfolding coarse_high coarse_low coarse_power
returns-in-88 c = rw c.in-88.is

pub returns-in-89 : goal.returns-in-89
unfolding coarse_high coarse_low coarse_power
returns-in-89 c = rw c.in-89.is

pub returns-in-90 : goal.returns-in-90
unfolding coarse_high coarse_low coarse_power
returns-in-90 c = rw c.in-90.is

pub returns-in-91 : goal.returns-in-91
unfolding coarse_high coarse_low coarse_power
returns-in-91 c = rw c.in-91.is

pub returns-in-92 : goal.returns-in-92
unfolding coarse_high coarse_low coarse_power
returns-in-92 c = rw c.in-92.is

pub returns-in-93 : goal.returns-in-93
unfolding coarse_high coarse_low coarse_power
returns-in-93 c = rw c.in-93.is

pub returns-in-94 : goal.returns-in-94
unfolding coarse_high coarse_low coarse_power
returns-in-94 c = rw c.in-94.is

pub returns-in-95 : goal.returns-in-95
unfolding coarse_high coarse_low coarse_power
returns-in-95 c = rw c.in-95.is

pub returns-in-96 : goal.returns-in-96
unfolding coarse_high coarse_low coarse_power
returns-in-96 c = rw c.in-96.is

pub returns-in-97 : goal.returns-in-97
unfolding coarse_high coarse_low coarse_power
returns-in-97 c = rw c.in-97.is

pub returns-in-98 : goal.returns-in-98
unfolding coarse_high coarse_low coarse_power
returns-in-98 c = rw c.in-98.is

pub returns-in-99 : goal.returns-in-99
unfolding coarse_high coarse_low coarse_power
returns-in-99 c = rw c.in-99.is

pub returns-in-100 : goal.returns-in-100
unfolding coarse_high coarse_low coarse_power
returns-in-100 c = rw c.in-100.is

pub returns-in-101 : goal.returns-in-101
unfolding coarse_high coarse_low coarse_power
returns-in-101 c = rw c.in-101.is

pub returns-in-102 : goal.returns-in-102
unfolding coarse_high coarse_low coarse_power
returns-in-102 c = rw c.in-102.is

pub returns-in-103 : goal.returns-in-103
unfolding coarse_high coarse_low coarse_power
returns-in-103 c = rw c.in-103.is

pub returns-in-104 : goal.returns-in-104
unfolding coarse_high coarse_low coarse_power
returns-in-104 c = rw c.in-104.is

pub returns-in-105 : goal.returns-in-105
unfolding coarse_high coarse_low coarse_power
returns-in-105 c = rw c.in-105.is

pub returns-in-106 : goal.returns-in-106
unfolding coarse_high coarse_low coarse_power
returns-in-106 c = rw c.in-106.is

pub returns-in-107 : goal.returns-in-107
unfolding coarse_high coarse_low coarse_power
returns-in-107 c = rw c.in-107.is

pub returns-in-108 : goal.returns-in-108
unfolding coarse_high coarse_low coarse_power
returns-in-108 c = rw c.in-108.is

pub returns-in-109 : goal.returns-in-109
unfolding coarse_high coarse_low coarse_power
returns-in-109 c = rw c.in-109.is

pub returns-in-110 : goal.returns-in-110
unfolding coarse_high coarse_low coarse_power
returns-in-110 c = rw c.in-110.is

pub returns-in-111 : goal.returns-in-111
unfolding coarse_high coarse_low coarse_power
returns-in-111 c = rw c.in-111.is

pub returns-in-112 : goal.returns-in-112
unfolding coarse_high coarse_low coarse_power
returns-in-112 c = rw c.in-112.is

pub returns-in-113 : goal.returns-in-113
unfolding coarse_high coarse_low coarse_power
returns-in-113 c = rw c.in-113.is

pub returns-in-114 : goal.returns-in-114
unfolding coarse_high coarse_low coarse_power
returns-in-114 c = rw c.in-114.is

pub returns-in-115 : goal.returns-in-115
unfolding coarse_high coarse_low coarse_power
returns-in-115 c = rw c.in-115.is

pub returns-in-116 : goal.returns-in-116
unfolding coarse_high coarse_low coarse_power
returns-in-116 c = rw c.in-116.is

pub returns-in-117 : goal.returns-in-117
unfolding coarse_high coarse_low coarse_power
returns-in-117 c = rw c.in-117.is

pub returns-in-118 : goal.returns-in-118
unfolding coarse_high coarse_low coarse_power
returns-in-118 c = rw c.in-118.is

pub returns-in-119 : goal.returns-in-119
unfolding coarse_high coarse_low coarse_power
returns-in-119 c = rw c.in-119.is

pub returns-in-120 : goal.returns-in-120
unfolding coarse_high coarse_low coarse_power
returns-in-120 c = rw c.in-120.is

pub returns-in-121 : goal.returns-in-121
unfolding coarse_high coarse_low coarse_power
returns-in-121 c = rw c.in-121.is

pub returns-in-122 : goal.returns-in-122
unfolding coarse_high coarse_low coarse_power
returns-in-122 c = rw c.in-122.is

pub returns-in-123 : goal.returns-in-123
unfolding coarse_high coarse_low coarse_power
returns-in-123 c = rw c.in-123.is

pub returns-in-124 : goal.returns-in-124
unfolding coarse_high coarse_low coarse_power
returns-in-124 c = rw c.in-124.is

pub returns-in-125 : goal.returns-in-125
unfolding coarse_high coarse_low coarse_power
returns-in-125 c = rw c.in-125.is

pub returns-in-126 : goal.returns-in-126
unfolding coarse_high coarse_low coarse_power
returns-in-126 c = rw c.in-126.is

pub returns-in-127 : goal.returns-in-127
unfolding coarse_high coarse_low coarse_power
returns-in-127 c = rw c.in-127.is

pub returns-in-128 : goal.returns-in-128
unfolding coarse_high coarse_low coarse_power
returns-in-128 c = rw c.in-128.is

pub returns-in-129 : goal.returns-in-129
unfolding coarse_high coarse_low coarse_power
returns-in-129 c = rw c.in-129.is

pub returns-in-130 : goal.returns-in-130
unfolding coarse_high coarse_low coarse_power
returns-in-130 c = rw c.in-130.is

pub returns-in-131 : goal.returns-in-131
unfolding coarse_high coarse_low coarse_power
returns-in-131 c = rw c.in-131.is

pub returns-in-132 : goal.returns-in-132
unfolding coarse_high coarse_low coarse_power
returns-in-132 c = rw c.in-132.is

pub returns-in-133 : goal.returns-in-133
unfolding coarse_high coarse_low coarse_power
returns-in-133 c = rw c.in-133.is

pub returns-in-134 : goal.returns-in-134
unfolding coarse_high coarse_low coarse_power
returns-in-134 c = rw c.in-134.is

pub returns-in-135 : goal.returns-in-135
unfolding coarse_high coarse_low coarse_power
returns-in-135 c = rw c.in-135.is

pub returns-in-136 : goal.returns-in-136
unfolding coarse_high coarse_low coarse_power
returns-in-136 c = rw c.in-136.is

pub returns-in-137 : goal.returns-in-137
unfolding coarse_high coarse_low coarse_power
returns-in-137 c = rw c.in-137.is

pub returns-in-138 : goal.returns-in-138
unfolding coarse_high coarse_low coarse_power
returns-in-138 c = rw c.in-138.is

pub returns-in-139 : goal.returns-in-139
unfolding coarse_high coarse_low coarse_power
returns-in-139 c = rw c.in-139.is

pub returns-in-140 : goal.returns-in-140
unfolding coarse_high coarse_low coarse_power
returns-in-140 c = rw c.in-140.is

pub returns-in-141 : goal.returns-in-141
unfolding coarse_high coarse_low coarse_power
returns-in-141 c = rw c.in-141.is

pub returns-in-142 : goal.returns-in-142
unfolding coarse_high coarse_low coarse_power
returns-in-142 c = rw c.in-142.is

pub returns-in-143 : goal.returns-in-143
unfolding coarse_high coarse_low coarse_power
returns-in-143 c = rw c.in-143.is

pub returns-in-144 : goal.returns-in-144
unfolding coarse_high coarse_low coarse_power
returns-in-144 c = rw c.in-144.is

pub returns-in-145 : goal.returns-in-145
unfolding coarse_high coarse_low coarse_power
returns-in-145 c = rw c.in-145.is

pub returns-in-146 : goal.returns-in-146
unfolding coarse_high coarse_low coarse_power
returns-in-146 c = rw c.in-146.is

pub returns-in-147 : goal.returns-in-147
unfolding coarse_high coarse_low coarse_power
returns-in-147 c = rw c.in-147.is

pub returns-in-148 : goal.returns-in-148
unfolding coarse_high coarse_low coarse_power
returns-in-148 c = rw c.in-148.is

pub returns-in-149 : goal.returns-in-149
unfolding coarse_high coarse_low coarse_power
returns-in-149 c = rw c.in-149.is

pub returns-in-150 : goal.returns-in-150
unfolding coarse_high coarse_low coarse_power
returns-in-150 c = rw c.in-150.is

pub returns-in-151 : goal.returns-in-151
unfolding coarse_high coarse_low coarse_power
returns-in-151 c = rw c.in-151.is

pub returns-in-152 : goal.returns-in-152
unfolding coarse_high coarse_low coarse_power
returns-in-152 c = rw c.in-152.is

pub returns-in-153 : goal.returns-in-153
unfolding coarse_high coarse_low coarse_power
returns-in-153 c = rw c.in-153.is

pub returns-in-154 : goal.returns-in-154
unfolding coarse_high coarse_low coarse_power
returns-in-154 c = rw c.in-154.is

pub returns-in-155 : goal.returns-in-155
unfolding coarse_high coarse_low coarse_power
returns-in-155 c = rw c.in-155.is

pub returns-in-156 : goal.returns-in-156
unfolding coarse_high coarse_low coarse_power
returns-in-156 c = rw c.in-156.is

pub returns-in-157 : goal.returns-in-157
unfolding coarse_high coarse_low coarse_power
returns-in-157 c = rw c.in-157.is

pub returns-in-158 : goal.returns-in-158
unfolding coarse_high coarse_low coarse_power
returns-in-158 c = rw c.in-158.is

pub returns-in-159 : goal.returns-in-159
unfolding coarse_high coarse_low coarse_power
returns-in-159 c = rw c.in-159.is

pub returns-in-160 : goal.returns-in-160
unfolding coarse_high coarse_low coarse_power
returns-in-160 c = rw c.in-160.is

pub returns-in-161 : goal.returns-in-161
unfolding coarse_high coarse_low coarse_power
returns-in-161 c = rw c.in-161.is

pub returns-in-162 : goal.returns-in-162
unfolding coarse_high coarse_low coarse_power
returns-in-162 c = rw c.in-162.is

pub returns-in-163 : goal.returns-in-163
unfolding coarse_high coarse_low coarse_power
returns-in-163 c = rw c.in-163.is

pub returns-in-164 : goal.returns-in-164
unfolding coarse_high coarse_low coarse_power
returns-in-164 c = rw c.in-164.is

pub returns-in-165 : goal.returns-in-165
unfolding coarse_high coarse_low coarse_power
returns-in-165 c = rw c.in-165.is

pub returns-in-166 : goal.returns-in-166
unfolding coarse_high coarse_low coarse_power
returns-in-166 c = rw c.in-166.is

pub returns-in-167 : goal.returns-in-167
unfolding coarse_high coarse_low coarse_power
returns-in-167 c = rw c.in-167.is

pub returns-in-168 : goal.returns-in-168
unfolding coarse_high coarse_low coarse_power
returns-in-168 c = rw c.in-168.is

pub returns-in-169 : goal.returns-in-169
unfolding coarse_high coarse_low coarse_power
returns-in-169 c = rw c.in-169.is

pub returns-in-170 : goal.returns-in-170
unfolding coarse_high coarse_low coarse_power
returns-in-170 c = rw c.in-170.is

pub returns-in-171 : goal.returns-in-171
unfolding coarse_high coarse_low coarse_power
returns-in-171 c = rw c.in-171.is

pub returns-in-172 : goal.returns-in-172
unfolding coarse_high coarse_low coarse_power
returns-in-172 c = rw c.in-172.is

pub returns-in-173 : goal.returns-in-173
unfolding coarse_high coarse_low coarse_power
returns-in-173 c = rw c.in-173.is

pub returns-in-174 : goal.returns-in-174
unfolding coarse_high coarse_low coarse_power
returns-in-174 c = rw c.in-174.is

pub returns-in-175 : goal.returns-in-175
unfolding coarse_high coarse_low coarse_power
returns-in-175 c = rw c.in-175.is

pub returns-in_default : goal.returns-in_default
unfolding coarse_high coarse_low coarse_power
returns-in_default c = rw (last 176 c.args.i c.requires c.in_default.in_default-own.rest)
