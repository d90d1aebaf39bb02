mod Assigning
