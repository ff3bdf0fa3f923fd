mod TestedTable
